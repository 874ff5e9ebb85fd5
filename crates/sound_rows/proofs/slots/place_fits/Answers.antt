-- `place_fits` is place_fits.
use mathlib.Core.Path.{refl}
use borrow.Author.Tests.{eq-eqb, ne_eqb, le-leb, lt-leb}
use Rattle.laws.specs.TestChainLaws.{fails, passes}
use Rattle.sound_rows.specs.SumsLaws.{sum_past, pages_over, pages_within}
use Rattle.sound_rows.specs.SlotRow.{place_fits}
use Rattle.sound_rows.proofs.slots.place_fits.Goals as goal

pub returns-then-region-gt3 : goal.returns-then-region-gt3
unfolding place_fits
returns-then-region-gt3 c = fails _ (lt-leb _ 3 c.if-region-gt3.true)

pub returns-then-region-ne0 : goal.returns-then-region-ne0
unfolding place_fits
returns-then-region-ne0 c = passes (le-leb _ 3 c.if-region-gt3.false) (fails _ (ne_eqb _ 0 c.if-region-ne0.true))

pub returns-then-region-lt1 : goal.returns-then-region-lt1
unfolding place_fits
returns-then-region-lt1 c = passes (le-leb _ 3 c.if-region-gt3.false) (passes (eq-eqb _ 0 c.if-region-ne0.false) (fails _ (lt-leb 1 _ c.if-region-lt1.true)))

pub returns-then-region-gt-USER_END : goal.returns-then-region-gt-USER_END
unfolding place_fits
returns-then-region-gt-USER_END c = passes (le-leb _ 3 c.if-region-gt3.false) (passes (eq-eqb _ 0 c.if-region-ne0.false) (passes (le-leb 1 _ c.if-region-lt1.false) (fails _ (sum_past _ _ _ c.if-region-gt-USER_END.true))))

pub returns-then-region : goal.returns-then-region
unfolding place_fits
returns-then-region c = passes (le-leb _ 3 c.if-region-gt3.false) (passes (eq-eqb _ 0 c.if-region-ne0.false) (passes (le-leb 1 _ c.if-region-lt1.false) (fails _ (pages_over _ _ _ c.if-region.true))))

pub returns : goal.returns
unfolding place_fits
returns c = passes (le-leb _ 3 c.if-region-gt3.false) (passes (eq-eqb _ 0 c.if-region-ne0.false) (passes (le-leb 1 _ c.if-region-lt1.false) (passes (pages_within _ _ _ c.if-region-ne0.false refl c.if-region-gt-USER_END.false c.if-region.false) refl)))
