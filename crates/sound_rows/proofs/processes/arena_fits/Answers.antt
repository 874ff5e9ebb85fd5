-- `arena_fits` is arena_fits.
use mathlib.Core.Path.{refl}
use native.Mathlib.Nat.{le_of_lt}
use borrow.Author.Tests.{eq-eqb, ne_eqb, lt-ltb, le-ltb, le-leb, lt-leb}
use Rattle.laws.specs.TestChainLaws.{fails, passes}
use Rattle.sound_rows.specs.SumsLaws.{sum_over, sum_within}
use Rattle.sound_rows.specs.ProcessRow.{arena_fits}
use Rattle.sound_rows.proofs.processes.arena_fits.Goals as goal

pub returns-then-row-ne0 : goal.returns-then-row-ne0
unfolding arena_fits
returns-then-row-ne0 c = fails _ (ne_eqb _ 0 c.if-row-ne0.true)

pub returns-then-row-ne0-2 : goal.returns-then-row-ne0-2
unfolding arena_fits
returns-then-row-ne0-2 c = passes (eq-eqb _ 0 c.if-row-ne0.false) (fails _ (ne_eqb _ 0 c.if-row-ne0-2.true))

pub returns-then-row-ge-USER_END : goal.returns-then-row-ge-USER_END
unfolding arena_fits
returns-then-row-ge-USER_END c = passes (eq-eqb _ 0 c.if-row-ne0.false) (passes (eq-eqb _ 0 c.if-row-ne0-2.false) (fails _ (le-ltb _ _ c.if-row-ge-USER_END.true)))

pub returns-then-row : goal.returns-then-row
unfolding arena_fits
returns-then-row c = passes (eq-eqb _ 0 c.if-row-ne0.false) (passes (eq-eqb _ 0 c.if-row-ne0-2.false) (passes (lt-ltb _ _ c.if-row-ge-USER_END.false) (fails _ (sum_over _ _ _ c.if-row.true))))

pub returns-then-row-2 : goal.returns-then-row-2
unfolding arena_fits
returns-then-row-2 c = passes (eq-eqb _ 0 c.if-row-ne0.false) (passes (eq-eqb _ 0 c.if-row-ne0-2.false) (passes (lt-ltb _ _ c.if-row-ge-USER_END.false) (passes (sum_within _ _ _ (le_of_lt c.if-row-ge-USER_END.false) c.if-row.false) (fails _ (lt-leb _ 64 c.if-row-2.true)))))

pub returns : goal.returns
unfolding arena_fits
returns c = passes (eq-eqb _ 0 c.if-row-ne0.false) (passes (eq-eqb _ 0 c.if-row-ne0-2.false) (passes (lt-ltb _ _ c.if-row-ge-USER_END.false) (passes (sum_within _ _ _ (le_of_lt c.if-row-ge-USER_END.false) c.if-row.false) (passes (le-leb _ 64 c.if-row-2.false) refl))))
