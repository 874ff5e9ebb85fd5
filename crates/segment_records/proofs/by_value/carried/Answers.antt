-- `carried` is carried_on.
use Rattle.segment_records.specs.RecordsLaws.{carried_stays, carried_put}
use Rattle.segment_records.proofs.by_value.carried.Goals as goal

pub returns-then-stays : goal.returns-then-stays
returns-then-stays c = carried_stays c.args.c c.args.i c.args.count c.args.row _ c.stays.ensures c.if-stays.true

pub returns : goal.returns
returns c = carried_put c.args.c c.args.i c.args.count c.args.row _ c.stays.ensures c.if-stays.false
