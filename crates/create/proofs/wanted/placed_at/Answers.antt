-- `placed_at` has the range where there is a run.
use mathlib.Core.Path.{ap, ◌∙◌}
use Rattle.backing.specs.BackingSteps.{found_frame}
use Rattle.create.specs.MadeLaws.{placed_ranged, placed_plain}
use Rattle.create.proofs.wanted.placed_at.Goals as goal

pub returns-in-Some : goal.returns-in-Some
returns-in-Some c = c.with_range.ensures ∙ placed_ranged c.args.region c.args.start.0 (found_frame c.args.run) _ (ap found_frame c.in-Some.is)

pub returns-in-None : goal.returns-in-None
returns-in-None c = c.with_range-in-None.ensures ∙ placed_plain c.args.region c.args.start.0 (found_frame c.args.run) (ap found_frame c.in-None.is)
