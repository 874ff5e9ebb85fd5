-- `is_strictly_inside`, with no sum that could be too large.
use native.Mathlib.Omega.{arith}
use Rattle.split_parts.specs.PartsLaws.{not_inside, inside_by}
use Rattle.split_parts.proofs.is_strictly_inside.Goals as goal

pub returns-then-at-region : goal.returns-then-at-region
returns-then-at-region c = not_inside c.args.region c.args.at c.if-at-region.true

pub returns : goal.returns
returns c = inside_by c.args.region c.args.at (omega arith)
