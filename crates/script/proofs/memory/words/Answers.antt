-- `memory::words` is as long as it says.
use Rattle.script.specs.FullLaws.{full}
use Rattle.script.proofs.memory.words.Goals as goal

pub returns : goal.returns
returns c = full 11844 0
