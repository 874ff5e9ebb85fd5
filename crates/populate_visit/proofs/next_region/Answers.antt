-- `next_region`: the next region, or the end.
use Rattle.populate_visit.specs.PageWalkLaws.{gap_none, gap_next}
use Rattle.populate_visit.proofs.next_region.Goals as goal

pub returns-in_default : goal.returns-in_default
returns-in_default c = gap_none _ _ _ c.next_start.ensures c.in_default.is _ c.end.ensures

pub returns : goal.returns
returns c = gap_next _ _ _ c.next_start.ensures _ c.in-Some.is
