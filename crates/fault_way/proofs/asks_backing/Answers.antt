-- `asks_backing`: one law for each case.
use Rattle.std.proofs.lemmas.Bool.{not_from_true, not_from_false}
use Rattle.fault_way.specs.WayLaws.{asks_refused, asks_well, asks_read, asks_write}
use Rattle.fault_way.proofs.asks_backing.Goals as goal

pub returns-then-not-is_user_accessible : goal.returns-then-not-is_user_accessible
returns-then-not-is_user_accessible c = asks_refused c.args.region c.args.page c.args.write _ c.is_user_accessible.ensures (not_from_false _ c.if-not-is_user_accessible.true)

pub returns-then-well_mapped : goal.returns-then-well_mapped
returns-then-well_mapped c = asks_well c.args.region c.args.page c.args.write _ c.is_user_accessible.ensures (not_from_true _ c.if-not-is_user_accessible.false) _ c.well_mapped.ensures c.if-well_mapped.true

pub returns-then-not-write : goal.returns-then-not-write
returns-then-not-write c = asks_read c.args.region c.args.page c.args.write _ c.is_user_accessible.ensures (not_from_true _ c.if-not-is_user_accessible.false) _ c.well_mapped.ensures c.if-well_mapped.false (not_from_false _ c.if-not-write.true)

pub returns : goal.returns
returns c = asks_write c.args.region c.args.page c.args.write _ c.is_user_accessible.ensures (not_from_true _ c.if-not-is_user_accessible.false) _ c.well_mapped.ensures c.if-well_mapped.false (not_from_true _ c.if-not-write.false) _ c.is_writable.ensures
