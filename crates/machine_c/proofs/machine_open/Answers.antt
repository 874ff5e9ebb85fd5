-- `machine_open`: the call's answer as numbers.
use mathlib.Core.Path.{ap, ◌∙◌}
use Rattle.model.specs.Answers.{of_opened}
use Rattle.machine_c.specs.OutLaws.{told_all, told_nothing, left_out, left_alone}
use Rattle.machine_c.proofs.machine_open.Goals as goal

pub returns-then-out-ne1 : goal.returns-then-out-ne1
returns-then-out-ne1 c = record { told = told_nothing _ _ _ c.if-out-ne1.true; leaves_out = left_alone _ _ _ _ _ _ c.if-out-ne1.true }

pub returns : goal.returns
returns c = record { told = told_all _ _ _ _ _ c.if-out-ne1.false (c.tell_opened.ensures.value ∙ ap (λ x. (of_opened x).number) c.«open».ensures.value) (c.tell_opened.ensures.out_after ∙ ap (λ x. (of_opened x).values) c.«open».ensures.value); leaves_out = left_out _ _ _ _ _ _ c.if-out-ne1.false _ _ c.«open».ensures.leaves }
