-- `lies_inside`: one law for each test that decides.
use native.Mathlib.Omega.{arith}
use Rattle.carve_inside.specs.InPartLaws.{inside_low, inside_high, inside_by}
use Rattle.carve_inside.proofs.tests.lies_inside.Goals as goal

pub returns-then-region-start : goal.returns-then-region-start
returns-then-region-start c = inside_low c.args.region c.args.start c.args.end c.if-region-start.true

pub returns-then-end-region : goal.returns-then-end-region
returns-then-end-region c = inside_high c.args.region c.args.start c.args.end (omega arith) c.if-end-region.true

pub returns : goal.returns
returns c = inside_by c.args.region c.args.start c.args.end (omega arith) (omega arith)
