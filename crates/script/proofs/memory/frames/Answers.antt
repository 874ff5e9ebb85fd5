-- `memory::frames` is as long as it says.
use Rattle.script.specs.FullLaws.{full}
use Rattle.script.proofs.memory.frames.Goals as goal

pub returns : goal.returns
returns c = full 1048576 0
