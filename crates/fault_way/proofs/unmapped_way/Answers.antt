-- `unmapped_way`: what backs the page decides.
use Rattle.fault_way.specs.WayLaws.{unmapped_entry, unmapped_range, unmapped_bare}
use Rattle.fault_way.proofs.unmapped_way.Goals as goal

pub returns-in-ByEntry : goal.returns-in-ByEntry
returns-in-ByEntry c = unmapped_entry c.args.region c.args.backed c.args.write _ _ _ c.in-ByEntry.is _ c.backed_way.ensures

pub returns-in-ByRange : goal.returns-in-ByRange
returns-in-ByRange c = unmapped_range c.args.region c.args.backed c.args.write _ _ c.in-ByRange.is _ c.backed_way-in-ByRange.ensures

pub returns-in-Unbacked : goal.returns-in-Unbacked
returns-in-Unbacked c = unmapped_bare c.args.region c.args.backed c.args.write c.in-Unbacked.is _ c.unbacked_way.ensures
