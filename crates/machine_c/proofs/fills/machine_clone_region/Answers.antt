-- `machine_clone_region`: the call's answer as a number.
use mathlib.Core.Path.{ap, ◌∙◌}
use Rattle.model.specs.Answers.{of_done}
use Rattle.machine_c.proofs.fills.machine_clone_region.Goals as goal

pub returns : goal.returns
returns c = record { value = c.tell_done.ensures ∙ ap (λ x. (of_done x).number) c.clone_region.ensures.value; leaves = c.clone_region.ensures.leaves }
