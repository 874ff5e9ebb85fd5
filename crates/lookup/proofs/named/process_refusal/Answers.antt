-- `process_refusal`: the process is open or it is not.
use mathlib.Core.Path.{sym, ◌∙◌}
use Rattle.lookup.specs.NamedLaws.{process_open, process_closed}
use Rattle.lookup.proofs.named.process_refusal.Goals as goal

pub returns-then-is_open : goal.returns-then-is_open
returns-then-is_open c = process_open _ _ (sym c.is_open.ensures ∙ c.if-is_open.true)

pub returns : goal.returns
returns c = process_closed _ _ (sym c.is_open.ensures ∙ c.if-is_open.false)
