-- `high_part`, field by field.
use Rattle.split_parts.specs.PartsLaws.{high_is}
use Rattle.split_parts.proofs.high_part.Goals as goal

pub returns : goal.returns
returns c = high_is c.args.region c.args.at _ c.saturating_sub-low.ensures _ _ _ c.saturating_sub.ensures c.offset_past.ensures c.saturating_sub-2.ensures
