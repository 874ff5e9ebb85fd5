-- `file_in` reads the file's three words.
use mathlib.Core.Path.{refl}
use Rattle.process.specs.Start.{file_in}
use Rattle.process.proofs.start.file_in.Goals as goal

pub returns : goal.returns
unfolding file_in
returns c = refl
