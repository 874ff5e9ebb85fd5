-- `Machine::with_file` meets its contract: three words of a row are put.
use Rattle.script_step.specs.FileStepLaws.{with_file_as}
use Rattle.script_step.proofs.machine.Machine.with_file.Goals as goal

pub returns : goal.returns
returns c = with_file_as c.args.self c.args.readable c.args.len _ c.flag_of.ensures
