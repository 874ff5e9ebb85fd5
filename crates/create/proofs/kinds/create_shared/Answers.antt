-- `create_shared` creates the row that is asked for.
use mathlib.Core.Path.{ap, sym, ◌∙◌}
use mathlib.Core.Bool.{false}
use Rattle.model.specs.declared.Region.{Region}
use Rattle.model.specs.Calls.{create, create_shared}
use Rattle.rows.specs.LentMemory.{state_of}
use Rattle.create.proofs.kinds.create_shared.Goals as goal

pub returns : goal.returns
unfolding create_shared
returns c = let a = c.args in λ files sound. ap (λ (row : Region). create (state_of a.words.now a.frames.now files) a.process a.place false row) (sym c.shared_row.ensures) ∙ c.create.ensures files sound
