-- `unbacked_way`: one law for each case.
use Rattle.fault_way.specs.WayLaws.{bare_open, bare_refused, bare_read}
use Rattle.fault_way.proofs.unbacked_way.Goals as goal

pub returns-then-is_writable : goal.returns-then-is_writable
returns-then-is_writable c = bare_open c.args.region _ c.is_writable.ensures c.if-is_writable.true c.args.write

pub returns-then-write : goal.returns-then-write
returns-then-write c = bare_refused c.args.region _ c.is_writable.ensures c.if-is_writable.false c.args.write c.if-write.true

pub returns : goal.returns
returns c = bare_read c.args.region _ c.is_writable.ensures c.if-is_writable.false c.args.write c.if-write.false
