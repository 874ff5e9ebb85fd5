-- `shared_rights` is shared_rights.
use mathlib.Core.Path.{refl}
use borrow.Author.Tests.{eq-eqb, ne_eqb}
use Rattle.laws.specs.TestChainLaws.{fails, passes}
use Rattle.sound_rows.proofs.slots.shared_rights.Goals as goal

pub returns-then-region-ne0 : goal.returns-then-region-ne0
returns-then-region-ne0 c = fails _ (ne_eqb _ 0 c.if-region-ne0.true)

pub returns-then-region-ne-COPY_ON_WRITE : goal.returns-then-region-ne-COPY_ON_WRITE
returns-then-region-ne-COPY_ON_WRITE c = passes (eq-eqb _ 0 c.if-region-ne0.false) (fails _ (ne_eqb _ 0 c.if-region-ne-COPY_ON_WRITE.true))

pub returns-then-region-ne0-2 : goal.returns-then-region-ne0-2
returns-then-region-ne0-2 c = passes (eq-eqb _ 0 c.if-region-ne0.false) (passes (eq-eqb _ 0 c.if-region-ne-COPY_ON_WRITE.false) (fails _ (ne_eqb _ 0 c.if-region-ne0-2.true)))

pub returns : goal.returns
returns c = passes (eq-eqb _ 0 c.if-region-ne0.false) (passes (eq-eqb _ 0 c.if-region-ne-COPY_ON_WRITE.false) (passes (eq-eqb _ 0 c.if-region-ne0-2.false) refl))
