-- `mapped_way`: a read-only region refuses; else what backs the page decides.
use Rattle.std.proofs.lemmas.Bool.{not_from_true, not_from_false}
use Rattle.fault_way.specs.WayLaws.{mapped_fixed, mapped_entry, mapped_range, mapped_unbacked}
use Rattle.fault_way.proofs.mapped_way.Goals as goal

pub returns-then-not-is_writable : goal.returns-then-not-is_writable
returns-then-not-is_writable c = mapped_fixed c.args.region _ c.is_writable.ensures c.args.backed (not_from_false _ c.if-not-is_writable.true)

pub returns-in-ByEntry : goal.returns-in-ByEntry
returns-in-ByEntry c = mapped_entry c.args.region _ c.is_writable.ensures c.args.backed (not_from_true _ c.if-not-is_writable.false) _ _ _ c.in-ByEntry.is _ c.copied_way.ensures

pub returns-in-ByRange : goal.returns-in-ByRange
returns-in-ByRange c = mapped_range c.args.region _ c.is_writable.ensures c.args.backed (not_from_true _ c.if-not-is_writable.false) _ _ c.in-ByRange.is _ c.copied_way-in-ByRange.ensures

pub returns-in-Unbacked : goal.returns-in-Unbacked
returns-in-Unbacked c = mapped_unbacked c.args.region _ c.is_writable.ensures c.args.backed (not_from_true _ c.if-not-is_writable.false) c.in-Unbacked.is
