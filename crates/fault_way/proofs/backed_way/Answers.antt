-- `backed_way`: one law for each case.
use Rattle.std.proofs.lemmas.Bool.{not_from_true, not_from_false}
use Rattle.fault_way.specs.WayLaws.{backed_refused, backed_fixed, backed_one, backed_copied, backed_shared}
use Rattle.fault_way.proofs.backed_way.Goals as goal

pub returns-then-write : goal.returns-then-write
returns-then-write c = backed_refused c.args.region _ c.is_writable.ensures c.args.frame c.args.count c.args.write (not_from_false _ c.if-not-is_writable.true) c.if-write.true

pub returns-then-not-is_writable : goal.returns-then-not-is_writable
returns-then-not-is_writable c = backed_fixed c.args.region _ c.is_writable.ensures c.args.frame c.args.count c.args.write (not_from_false _ c.if-not-is_writable.true) c.if-write.false

pub returns-then-count-eq1 : goal.returns-then-count-eq1
returns-then-count-eq1 c = backed_one c.args.region _ c.is_writable.ensures c.args.frame c.args.count c.args.write (not_from_true _ c.if-not-is_writable.false) c.if-count-eq1.true

pub returns-then-write-2 : goal.returns-then-write-2
returns-then-write-2 c = backed_copied c.args.region _ c.is_writable.ensures c.args.frame c.args.count c.args.write (not_from_true _ c.if-not-is_writable.false) c.if-count-eq1.false c.if-write-2.true

pub returns : goal.returns
returns c = backed_shared c.args.region _ c.is_writable.ensures c.args.frame c.args.count c.args.write (not_from_true _ c.if-not-is_writable.false) c.if-count-eq1.false c.if-write-2.false _ c.read_only.ensures
