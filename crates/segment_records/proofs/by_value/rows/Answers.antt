-- `rows` is rows_of.
use Rattle.segment_records.specs.RecordsLaws.{rows_some, rows_all}
use Rattle.segment_records.proofs.by_value.rows.Goals as goal

pub returns-then-count-len : goal.returns-then-count-len
returns-then-count-len c = rows_some c.args.len c.args.count c.if-count-len.true

pub returns : goal.returns
returns c = rows_all c.args.len c.args.count c.if-count-len.false
