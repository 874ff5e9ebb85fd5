-- `is_counted`: one arm for each kind of answer.
use mathlib.Core.Path.{ap, sym}
use Rattle.model.specs.Meant.{counts}
use Rattle.step.proofs.answer.is_counted.Goals as goal

pub returns-in-Done : goal.returns-in-Done
unfolding counts
returns-in-Done c = ap (λ x. counts x) (sym c.in-Done.is)

pub returns-in-Opened : goal.returns-in-Opened
unfolding counts
returns-in-Opened c = ap (λ x. counts x) (sym c.in-Opened.is)

pub returns-in-Placed : goal.returns-in-Placed
unfolding counts
returns-in-Placed c = ap (λ x. counts x) (sym c.in-Placed.is)

pub returns-in-Covering : goal.returns-in-Covering
unfolding counts
returns-in-Covering c = ap (λ x. counts x) (sym c.in-Covering.is)

pub returns-in-Loaded : goal.returns-in-Loaded
unfolding counts
returns-in-Loaded c = ap (λ x. counts x) (sym c.in-Loaded.is)

pub returns-in-Counted : goal.returns-in-Counted
unfolding counts
returns-in-Counted c = ap (λ x. counts x) (sym c.in-Counted.is)
