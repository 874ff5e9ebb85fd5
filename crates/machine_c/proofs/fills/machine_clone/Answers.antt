-- `machine_clone`: the call's answer as a number.
use mathlib.Core.Path.{ap, ◌∙◌}
use Rattle.model.specs.Answers.{of_done}
use Rattle.machine_c.proofs.fills.machine_clone.Goals as goal

pub returns : goal.returns
returns c = record { value = c.tell_done.ensures ∙ ap (λ x. (of_done x).number) c.clone.ensures.value; leaves = c.clone.ensures.leaves }
