-- `low_part`, field by field.
use Rattle.split_parts.specs.PartsLaws.{low_is}
use Rattle.split_parts.proofs.low_part.Goals as goal

pub returns : goal.returns
returns c = low_is c.args.region c.args.at _ c.saturating_sub-size.ensures _ c.min.ensures
