-- `machine_load`: the call's answer as numbers.
use mathlib.Core.Path.{ap, ◌∙◌}
use Rattle.model.specs.Answers.{of_loaded}
use Rattle.machine_c.specs.OutLaws.{told_all, told_nothing}
use Rattle.machine_c.proofs.machine_load.Goals as goal

pub returns-then-out-ne1 : goal.returns-then-out-ne1
returns-then-out-ne1 c = told_nothing _ _ _ c.if-out-ne1.true

pub returns : goal.returns
returns c = told_all _ _ _ _ _ c.if-out-ne1.false (c.tell_loaded.ensures.value ∙ ap (λ x. (of_loaded x).number) c.load.ensures) (c.tell_loaded.ensures.out_after ∙ ap (λ x. (of_loaded x).values) c.load.ensures)
