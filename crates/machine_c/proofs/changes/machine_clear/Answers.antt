-- `machine_clear`: the call's answer as a number.
use mathlib.Core.Path.{ap, ◌∙◌}
use Rattle.model.specs.Answers.{of_done}
use Rattle.machine_c.proofs.changes.machine_clear.Goals as goal

pub returns : goal.returns
returns c = record { value = c.tell_done.ensures ∙ ap (λ x. (of_done x).number) c.clear.ensures.value; leaves = c.clear.ensures.leaves }
