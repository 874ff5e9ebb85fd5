-- `nearer_row` is nearer.
use mathlib.Core.Path.{sym, ◌∙◌}
use mathlib.Core.Bool.{true, false}
use Rattle.model.specs.Layout.{machine}
use Rattle.lookup.specs.NextEntryLaws.{nearer_is}
use Rattle.lookup.proofs.backed.nearer_row.Goals as goal

pub returns-then-comes_first : goal.returns-then-comes_first
returns-then-comes_first c = nearer_is (machine c.args.words.now).entries c.args.owner c.args.page.0 c.args.i c.args.later _ c.entry_at-e.ensures true (sym c.comes_first.ensures ∙ c.if-comes_first.true)

pub returns : goal.returns
returns c = nearer_is (machine c.args.words.now).entries c.args.owner c.args.page.0 c.args.i c.args.later _ c.entry_at-e.ensures false (sym c.comes_first.ensures ∙ c.if-comes_first.false)
