-- `stays` is stays_of.
use Rattle.segment_records.specs.RecordsLaws.{stays_placed, stays_last, stays_before}
use Rattle.segment_records.proofs.by_value.stays.Goals as goal

pub returns-then-c : goal.returns-then-c
returns-then-c c = stays_placed c.args.c c.args.i c.args.count c.args.row c.if-c.true

pub returns-then-i-count : goal.returns-then-i-count
returns-then-i-count c = stays_last c.args.c c.args.i c.args.count c.args.row c.if-c.false c.if-i-count.true

pub returns : goal.returns
returns c = stays_before c.args.c c.args.i c.args.count c.args.row c.if-c.false c.if-i-count.false _ c.comes_before.ensures
