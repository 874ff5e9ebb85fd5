-- `refuse`: zeros where starts are listed.
use mathlib.Core.Path.{ap, sym, ◌∙◌}
use Rattle.std.specs.Prelude.{Bool}
use Rattle.calls.specs.Ran.{starts_refused}
use Rattle.calls.proofs.any_call.refuse.Goals as goal

pub returns-then-is_counted : goal.returns-then-is_counted
returns-then-is_counted c = record { value = c.refused-answer.ensures; starts_after = c.put_zeros.ensures ∙ ap (λ (b : Bool). starts_refused b c.args.starts.now) (sym c.if-is_counted.true ∙ c.is_counted.ensures) }

pub returns-else-is_counted : goal.returns-else-is_counted
returns-else-is_counted c = record { value = c.refused-answer.ensures; starts_after = ap (λ (b : Bool). starts_refused b c.args.starts.now) (sym c.if-is_counted.false ∙ c.is_counted.ensures) }
