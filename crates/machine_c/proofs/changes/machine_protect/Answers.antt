-- `machine_protect`: the call's answer as a number.
use mathlib.Core.Path.{ap, ◌∙◌}
use Rattle.model.specs.Answers.{of_done}
use Rattle.machine_c.proofs.changes.machine_protect.Goals as goal

pub returns : goal.returns
returns c = record { value = c.tell_done.ensures ∙ ap (λ x. (of_done x).number) c.protect.ensures.value; leaves = c.protect.ensures.leaves }
