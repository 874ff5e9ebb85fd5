-- `is_bad_arena`: one law for each test that decides.
use mathlib.Core.Bool.{true}
use mathlib.Core.Path.{sym, ◌∙◌}
use borrow.Author.Tests.{eq-eqb, ne_eqb}
use Rattle.process.specs.OpeningLaws.{arena_start, arena_end, arena_last, past_start, past_end}
use Rattle.process.proofs.opened.is_bad_arena.Goals as goal

pub returns-then-not-is_aligned : goal.returns-then-not-is_aligned
returns-then-not-is_aligned c = arena_start c.args.start.0 c.args.size (sym c.is_aligned.ensures ∙ c.if-not-is_aligned.true)

pub returns-then-size-ne0 : goal.returns-then-size-ne0
returns-then-size-ne0 c = arena_end c.args.start.0 c.args.size (sym c.is_aligned.ensures ∙ c.if-not-is_aligned.false) (ne_eqb _ _ c.if-size-ne0.true)

pub returns-then-start-gt-USER_END : goal.returns-then-start-gt-USER_END
returns-then-start-gt-USER_END c = arena_last c.args.start.0 c.args.size true (sym c.is_aligned.ensures ∙ c.if-not-is_aligned.false) (eq-eqb _ _ c.if-size-ne0.false) (past_start c.args.start.0 c.args.size c.if-start-gt-USER_END.true)

pub returns : goal.returns
returns c = arena_last c.args.start.0 c.args.size _ (sym c.is_aligned.ensures ∙ c.if-not-is_aligned.false) (eq-eqb _ _ c.if-size-ne0.false) (past_end c.args.start.0 c.args.size c.if-start-gt-USER_END.false)
