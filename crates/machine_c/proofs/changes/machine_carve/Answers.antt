-- `machine_carve`: the call's answer as numbers.
use Rattle.machine_c.specs.OutLaws.{told_nothing, left_alone, listed_out}
use Rattle.machine_c.proofs.changes.machine_carve.Goals as goal

pub returns-then-out-ne65 : goal.returns-then-out-ne65
returns-then-out-ne65 c = record { told = told_nothing _ _ _ c.if-out-ne65.true; leaves_out = left_alone _ _ _ _ _ _ c.if-out-ne65.true }

pub returns : goal.returns
returns c = let the = listed_out _ _ _ _ _ _ c.args.out.now _ _ _ _ c.if-out-ne65.false c.carve-counted.ensures c.tell_counted.ensures.value c.tell_counted.ensures.out_after in record { told = the.0; leaves_out = the.1 }
