-- `call_end`: no words, too few of them, or a whole call.
use Rattle.call_runs.specs.RunAllLaws.{end_none, end_cut, end_whole}
use Rattle.call_runs.proofs.call_end.Goals as goal

pub returns-then-calls-at : goal.returns-then-calls-at
returns-then-calls-at c = end_none c.args.calls.now c.args.at c.if-calls-at.true

pub returns-then-calls-at-2 : goal.returns-then-calls-at-2
returns-then-calls-at-2 c = end_cut c.args.calls.now c.args.at c.if-calls-at.false c.if-calls-at-2.true

pub returns : goal.returns
returns c = end_whole c.args.calls.now c.args.at c.if-calls-at.false c.if-calls-at-2.false
