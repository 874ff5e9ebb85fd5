-- `tell_done`: 0, or the refusal's number.
use mathlib.Core.Path.{ap, sym, ◌∙◌}
use Rattle.model.specs.Answers.{of_done}
use Rattle.call_rows.proofs.told.tell_done.Goals as goal

pub returns-in-Err : goal.returns-in-Err
returns-in-Err c = c.number.ensures ∙ ap (λ x. (of_done x).number) (sym c.in-Err.is)
