-- `copied_way`: one holder, or more.
use Rattle.fault_way.specs.WayLaws.{copied_one, copied_more}
use Rattle.fault_way.proofs.copied_way.Goals as goal

pub returns-then-count-eq1 : goal.returns-then-count-eq1
returns-then-count-eq1 c = copied_one c.args.frame c.args.count c.if-count-eq1.true

pub returns : goal.returns
returns c = copied_more c.args.frame c.args.count c.if-count-eq1.false
