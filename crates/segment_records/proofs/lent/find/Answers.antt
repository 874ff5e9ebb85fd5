-- The answers for `find`.
use native.Mathlib.Omega.{arith}
use Rattle.segment_records.specs.RecordsLaws.{look_found, look_more, look_none}
use Rattle.segment_records.proofs.lent.find.Goals as goal

pub returns-then-is : goal.returns-then-is
returns-then-is c = look_found c.args.segments.now c.args.s c.args.count c.loop-i.i c.loop-i.invariant (omega arith) _ c.is.ensures c.if-is.true

pub loop-i-preserved : goal.loop-i-preserved
loop-i-preserved c = look_more c.args.segments.now c.args.s c.args.count c.loop-i.i c.loop-i.invariant (omega arith) _ c.is.ensures c.if-is.false

pub returns : goal.returns
returns c = look_none c.args.segments.now c.args.s c.args.count c.loop-i.i c.loop-i.invariant (omega arith)
