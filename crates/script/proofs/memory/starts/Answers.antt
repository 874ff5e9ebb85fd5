-- `memory::starts` is as long as it says.
use Rattle.script.specs.FullLaws.{full}
use Rattle.script.proofs.memory.starts.Goals as goal

pub returns : goal.returns
returns c = full 64 0
