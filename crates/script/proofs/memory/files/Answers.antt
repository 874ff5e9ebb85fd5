-- `memory::files` is as long as it says.
use Rattle.script.specs.FullLaws.{full}
use Rattle.script.proofs.memory.files.Goals as goal

pub returns : goal.returns
returns c = full 262144 0
