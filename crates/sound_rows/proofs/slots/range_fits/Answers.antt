-- `range_fits` is range_fits.
use mathlib.Core.Path.{refl}
use lib.Dec.{eqb}
use borrow.Author.Tests.{eq-eqb, ne_eqb}
use Rattle.laws.specs.TestChainLaws.{fails, passes, first_asked, second_asked}
use Rattle.sound_rows.specs.SlotRow.{range_fits}
use Rattle.sound_rows.proofs.slots.range_fits.Goals as goal

pub returns-then-region-eq1 : goal.returns-then-region-eq1
unfolding range_fits
returns-then-region-eq1 c = first_asked _ (eq-eqb _ 1 c.if-region-eq1.true) (λ k. eqb (c.backing_from-backing.ensures k).len (c.pages_for-pages.ensures k))

pub returns-then-region-ne0 : goal.returns-then-region-ne0
unfolding range_fits
returns-then-region-ne0 c = second_asked _ (ne_eqb _ 1 c.if-region-eq1.false) (fails _ (ne_eqb _ 0 c.if-region-ne0.true))

pub returns : goal.returns
unfolding range_fits
returns c = second_asked _ (ne_eqb _ 1 c.if-region-eq1.false) (passes (eq-eqb _ 0 c.if-region-ne0.false) refl)
