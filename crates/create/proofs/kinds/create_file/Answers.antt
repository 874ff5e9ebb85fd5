-- `create_file` creates the row that is asked for.
use mathlib.Core.Path.{ap, sym, ◌∙◌}
use mathlib.Core.Bool.{false}
use Rattle.model.specs.declared.Region.{Region}
use Rattle.model.specs.Calls.{create, create_file}
use Rattle.rows.specs.LentMemory.{state_of}
use Rattle.create.proofs.kinds.create_file.Goals as goal

pub returns : goal.returns
unfolding create_file
returns c = let a = c.args in λ files sound. ap (λ (row : Region). create (state_of a.words.now a.frames.now files) a.process a.place false row) (sym c.file_row.ensures) ∙ c.create.ensures files sound
