-- `machine_regions`: the call's answer as numbers.
use Rattle.machine_c.specs.OutLaws.{told_nothing, listed_out}
use Rattle.machine_c.proofs.machine_regions.Goals as goal

pub returns-then-out-ne65 : goal.returns-then-out-ne65
returns-then-out-ne65 c = told_nothing _ _ _ c.if-out-ne65.true

pub returns : goal.returns
returns c = (listed_out _ _ _ _ _ _ c.args.out.now _ _ _ _ c.if-out-ne65.false c.regions-counted.ensures c.tell_counted.ensures.value c.tell_counted.ensures.out_after).0
