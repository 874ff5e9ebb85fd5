-- `machine_fault`: the call's answer as a number.
use mathlib.Core.Path.{ap, ◌∙◌}
use Rattle.model.specs.Answers.{of_done}
use Rattle.machine_c.proofs.fills.machine_fault.Goals as goal

pub returns : goal.returns
returns c = record { value = c.tell_done.ensures ∙ ap (λ x. (of_done x).number) c.fault.ensures.value; leaves = c.fault.ensures.leaves }
