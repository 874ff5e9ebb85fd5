-- `create_private` creates the row that is asked for.
use mathlib.Core.Path.{sym, ◌∙◌}
use Rattle.model.specs.Calls.{create, create_private}
use Rattle.rows.specs.LentMemory.{state_of}
use Rattle.create.proofs.kinds.create_private.Goals as goal

pub returns : goal.returns
unfolding create_private
returns c =
    let a = c.args in
    let row = sym c.private_row.ensures in
    let eager = sym c.is_eager.ensures in
    λ files sound. (λ k. create (state_of a.words.now a.frames.now files) a.process a.place (eager k) (row k)) ∙ c.create.ensures files sound
