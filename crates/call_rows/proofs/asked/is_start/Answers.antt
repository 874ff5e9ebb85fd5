-- `is_start`: whether the first word is 0.
use Rattle.call_rows.specs.AskedLaws.{starts_none, starts_at}
use Rattle.call_rows.proofs.asked.is_start.Goals as goal

pub returns-then-call-eq0 : goal.returns-then-call-eq0
returns-then-call-eq0 c = starts_none c.args.call.now c.if-call-eq0.true

pub returns : goal.returns
returns c = starts_at c.args.call.now c.if-call-eq0.false
