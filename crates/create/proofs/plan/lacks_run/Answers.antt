-- `lacks_run`: only a run that is needed and not there is missed.
use mathlib.Core.Path.{sym, ◌∙◌}
use Rattle.create.specs.PlansLaws.{lacks_tested, lacks_untold}
use Rattle.create.proofs.plan.lacks_run.Goals as goal

pub returns-then-is_some : goal.returns-then-is_some
returns-then-is_some c = lacks_tested c.args.eager c.args.region c.args.run (sym c.is_some.ensures ∙ c.if-is_some.true)

pub returns : goal.returns
returns c = lacks_untold c.args.eager c.args.region c.args.run (sym c.is_some.ensures ∙ c.if-is_some.false) _ c.is_run_needed.ensures
