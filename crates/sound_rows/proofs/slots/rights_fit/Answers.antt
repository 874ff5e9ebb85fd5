-- `rights_fit` is rights_fit.
use borrow.Author.Tests.{eq-eqb, ne_eqb}
use Rattle.laws.specs.TestChainLaws.{second_unless, first_unless}
use Rattle.sound_rows.specs.SlotRow.{rights_fit}
use Rattle.sound_rows.proofs.slots.rights_fit.Goals as goal

pub returns-then-region-eq-SHARED : goal.returns-then-region-eq-SHARED
unfolding rights_fit
returns-then-region-eq-SHARED c = second_unless _ (eq-eqb _ 3 c.if-region-eq-SHARED.true) c.shared_rights.ensures

pub returns : goal.returns
unfolding rights_fit
returns c = first_unless _ (ne_eqb _ 3 c.if-region-eq-SHARED.false) c.own_rights.ensures
