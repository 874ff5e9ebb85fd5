-- `region_fits` is region_fits.
use borrow.Author.Tests.{eq-eqb, ne_eqb}
use Rattle.model.specs.SoundTest.{region_fits}
use Rattle.laws.specs.TestChainLaws.{first_asked, second_asked}
use Rattle.sound_rows.proofs.slots.region_fits.Goals as goal

pub returns-then-region-eq-FREE : goal.returns-then-region-eq-FREE
unfolding region_fits
returns-then-region-eq-FREE c = first_asked _ (eq-eqb _ 0 c.if-region-eq-FREE.true) c.is_free.ensures

pub returns : goal.returns
unfolding region_fits
returns c = second_asked _ (ne_eqb _ 0 c.if-region-eq-FREE.false) c.limits_fit.ensures
