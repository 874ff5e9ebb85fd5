-- `own_rights` is own_rights.
use mathlib.Core.Path.{refl, sym, ◌∙◌}
use borrow.Author.Tests.{le-leb, lt-leb}
use Rattle.laws.specs.TestChainLaws.{fails, passes}
use Rattle.sound_rows.proofs.slots.own_rights.Goals as goal

pub returns-then-not-good_flags : goal.returns-then-not-good_flags
returns-then-not-good_flags c = fails _ (sym c.good_flags.ensures ∙ c.if-not-good_flags.true)

pub returns-then-region-gt1 : goal.returns-then-region-gt1
returns-then-region-gt1 c = passes (sym c.good_flags.ensures ∙ c.if-not-good_flags.false) (fails _ (lt-leb _ 1 c.if-region-gt1.true))

pub returns : goal.returns
returns c = passes (sym c.good_flags.ensures ∙ c.if-not-good_flags.false) (passes (le-leb _ 1 c.if-region-gt1.false) refl)
