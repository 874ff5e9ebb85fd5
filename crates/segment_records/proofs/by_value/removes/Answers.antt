-- `removes` is removable.
use Rattle.segment_records.specs.RecordsLaws.{removes_held, removes_past}
use Rattle.segment_records.proofs.by_value.removes.Goals as goal

pub returns-then-at-count : goal.returns-then-at-count
returns-then-at-count c = removes_held c.args.len c.args.count c.args.at c.if-at-count.true

pub returns : goal.returns
returns c = removes_past c.args.len c.args.count c.args.at c.if-at-count.false
