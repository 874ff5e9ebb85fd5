-- `turns` is turns_of.
use Rattle.segment_records.specs.RecordsLaws.{turns_room, turns_none}
use Rattle.segment_records.proofs.by_value.turns.Goals as goal

pub returns-then-count-len : goal.returns-then-count-len
returns-then-count-len c = turns_room c.args.len c.args.count c.if-count-len.true

pub returns : goal.returns
returns c = turns_none c.args.len c.args.count c.if-count-len.false
