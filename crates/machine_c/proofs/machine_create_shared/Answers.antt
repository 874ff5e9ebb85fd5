-- `machine_create_shared`: the call's answer as numbers.
use Rattle.model.specs.Calls as model
use Rattle.machine_c.specs.OutLaws.{told_nothing, left_alone, placed_out}
use Rattle.machine_c.proofs.machine_create_shared.Goals as goal

pub returns-then-out-ne1 : goal.returns-then-out-ne1
returns-then-out-ne1 c = record { told = told_nothing _ _ _ c.if-out-ne1.true; leaves_out = left_alone _ _ _ _ _ _ c.if-out-ne1.true }

pub returns : goal.returns
returns c = let a = c.args in let the = placed_out (λ y s. model.create_shared s a.process y a.size) _ _ _ _ _ c.place_at-place.ensures _ _ _ _ _ _ c.if-out-ne1.false c.create_shared.ensures.value c.create_shared.ensures.leaves c.tell_placed.ensures.value c.tell_placed.ensures.out_after in record { told = the.0; leaves_out = the.1 }
