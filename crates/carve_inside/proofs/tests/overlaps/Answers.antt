-- `overlaps`: one law for each test that decides.
use native.Mathlib.Omega.{arith}
use Rattle.carve_inside.specs.InPartLaws.{over_past, over_start, over_by}
use Rattle.carve_inside.proofs.tests.overlaps.Goals as goal

pub returns-then-end-region : goal.returns-then-end-region
returns-then-end-region c = over_past c.args.region c.args.start c.args.end c.if-end-region.true

pub returns-then-start-region : goal.returns-then-start-region
returns-then-start-region c = over_start c.args.region c.args.start c.args.end (omega arith) c.if-start-region.true

pub returns : goal.returns
returns c = over_by c.args.region c.args.start c.args.end (omega arith) (omega arith)
