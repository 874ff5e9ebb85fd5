-- `comes_first` is comes_first.
use Rattle.std.specs.Prelude.{◌≡◌, Option, ℕ, leb}
use mathlib.Core.Path.{sym, ◌∙◌, subst}
use native.Mathlib.Omega.{arith}
use Rattle.std.proofs.lemmas.Map.Keys.{ge_from_not_lt}
use Rattle.std.proofs.lemmas.Grind.{common_steps}
use Rattle.model.specs.Lookup.{row_found}
use Rattle.model.specs.Layout.{machine}
use Rattle.lookup.specs.NextEntryLaws.{other_not, below_not, first_alone, first_of_two}
use Prim.Native.Nat.{◌<◌}
use Rattle.lookup.proofs.backed.comes_first.Goals as goal

pub returns-then-e-owner : goal.returns-then-e-owner
returns-then-e-owner c = other_not (machine c.args.words.now).entries c.args.owner c.args.page.0 c.args.e c.args.later c.if-e-owner.true

pub returns-then-lt : goal.returns-then-lt
returns-then-lt c = below_not (machine c.args.words.now).entries c.args.owner c.args.page.0 c.args.e c.args.later c.if-e-owner.false (let low : c.args.e.page.0 < c.args.page.0 = grind (arith, common_steps) in low)

pub returns-in_default : goal.returns-in_default
returns-in_default c = first_alone (machine c.args.words.now).entries c.args.owner c.args.page.0 c.args.e c.args.later c.if-e-owner.false (ge_from_not_lt _ _ (sym c.lt.ensures ∙ c.if-lt.false)) c.in_default.is

pub entry_at-requires : goal.entry_at-requires
entry_at-requires c = record { words_len = c.requires.words_len; i_bound = subst (λ (f : Option ℕ). row_found f < 512) c.in-Some.is c.requires.later_bound }

pub returns : goal.returns
returns c = let same : c.le.result ≡ leb c.args.e.page.0 c.entry_at.result.page.0 = grind (arith, common_steps) in same ∙ first_of_two (machine c.args.words.now).entries c.args.owner c.args.page.0 c.args.e c.args.later _ c.if-e-owner.false (ge_from_not_lt _ _ (sym c.lt.ensures ∙ c.if-lt.false)) c.in-Some.is _ c.entry_at.ensures
