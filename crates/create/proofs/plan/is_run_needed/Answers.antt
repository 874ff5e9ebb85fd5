-- `is_run_needed`: eager and Shared regions have a run.
use mathlib.Core.Path.{refl}
use Rattle.create.specs.PlansLaws.{needed_shared}
use Rattle.create.proofs.plan.is_run_needed.Goals as goal

pub returns : goal.returns
returns c = needed_shared c.args.eager c.args.region _ c.if-eager.false refl
