-- `private_way`: one law for each case.
use Rattle.std.proofs.lemmas.Bool.{not_from_true, not_from_false}
use Rattle.fault_way.specs.WayLaws.{private_refused, private_unmapped, private_well, private_mapped, told_none, told_some}
use Rattle.fault_way.proofs.private_way.Goals as goal

pub returns-then-not-is_user_accessible : goal.returns-then-not-is_user_accessible
returns-then-not-is_user_accessible c = private_refused c.args.region c.args.page c.args.backed c.args.write _ c.is_user_accessible.ensures (not_from_false _ c.if-not-is_user_accessible.true)

pub returns-then-is_none : goal.returns-then-is_none
returns-then-is_none c = private_unmapped c.args.region c.args.page c.args.backed c.args.write _ c.is_user_accessible.ensures (not_from_true _ c.if-not-is_user_accessible.false) (told_none _ c.if-is_none.ensures) _ c.unmapped_way.ensures

pub returns-then-well_mapped : goal.returns-then-well_mapped
returns-then-well_mapped c = let some = told_some _ c.if-is_none.ensures in private_well c.args.region c.args.page c.args.backed c.args.write _ c.is_user_accessible.ensures (not_from_true _ c.if-not-is_user_accessible.false) some.0 some.1 _ c.well_mapped.ensures c.if-well_mapped.true

pub returns : goal.returns
returns c = let some = told_some _ c.if-is_none.ensures in private_mapped c.args.region c.args.page c.args.backed c.args.write _ c.is_user_accessible.ensures (not_from_true _ c.if-not-is_user_accessible.false) some.0 some.1 _ c.well_mapped.ensures c.if-well_mapped.false _ c.mapped_way.ensures
