-- `no_entry_left`: none was found, or one.
use Rattle.fault_needs.specs.WayNeedsLaws.{entry_tested}
use Rattle.fault_needs.proofs.no_entry_left.Goals as goal

pub returns : goal.returns
returns c = entry_tested _ _ c.free_entry.ensures _ c.is_none.ensures
