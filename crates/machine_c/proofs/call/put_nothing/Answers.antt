-- `put_nothing`: zeros alone.
use Rattle.machine_c.specs.CalledLaws.{zeros_out}
use Rattle.machine_c.proofs.call.put_nothing.Goals as goal

pub returns : goal.returns
returns c = zeros_out c.args.out.now _ c.requires c.put_zeros.ensures
