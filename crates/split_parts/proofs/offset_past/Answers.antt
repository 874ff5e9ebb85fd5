-- `offset_past`: only a file's bytes begin later.
use Rattle.split_parts.specs.PartsLaws.{offset_file, offset_other}
use Rattle.split_parts.proofs.offset_past.Goals as goal

pub returns-then-region-eq-FILE_BACKED : goal.returns-then-region-eq-FILE_BACKED
returns-then-region-eq-FILE_BACKED c = offset_file c.args.region c.args.past c.if-region-eq-FILE_BACKED.true

pub returns : goal.returns
returns c = offset_other c.args.region c.args.past c.if-region-eq-FILE_BACKED.false
