-- `is_bad_size`: one law for each limit.
use Rattle.create.specs.RequestRefusedLaws.{size_zero, size_large, offset_large, length_left}
use Rattle.create.proofs.refusals.is_bad_size.Goals as goal

pub returns-then-region-eq0 : goal.returns-then-region-eq0
returns-then-region-eq0 c = size_zero c.args.region c.if-region-eq0.true

pub returns-then-region-gt-USER_END : goal.returns-then-region-gt-USER_END
returns-then-region-gt-USER_END c = size_large c.args.region c.if-region-eq0.false c.if-region-gt-USER_END.true

pub returns-then-region-gt-USER_END-2 : goal.returns-then-region-gt-USER_END-2
returns-then-region-gt-USER_END-2 c = offset_large c.args.region c.if-region-eq0.false c.if-region-gt-USER_END.false c.if-region-gt-USER_END-2.true

pub returns : goal.returns
returns c = length_left c.args.region c.if-region-eq0.false c.if-region-gt-USER_END.false c.if-region-gt-USER_END-2.false
