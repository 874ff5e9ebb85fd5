-- `may_start` tests a row: one law a way.
use Rattle.sound_frames.specs.MetLaws.{none_starts, starts_early, starts_outside, ends_within}
use Rattle.sound_frames.proofs.backings.may_start.Goals as goal

pub returns-then-len-eq0 : goal.returns-then-len-eq0
returns-then-len-eq0 c = none_starts c.args.end c.args.f c.args.len c.args.count c.if-len-eq0.true

pub returns-then-f-end : goal.returns-then-f-end
returns-then-f-end c = starts_early c.args.end c.args.f c.args.len c.args.count c.if-len-eq0.false c.if-f-end.true

pub returns-then-count-f : goal.returns-then-count-f
returns-then-count-f c = starts_outside c.args.end c.args.f c.args.len c.args.count c.if-len-eq0.false c.if-f-end.false c.if-count-f.true

pub returns : goal.returns
returns c = ends_within c.args.end c.args.f c.args.len c.args.count c.if-len-eq0.false c.if-f-end.false c.if-count-f.false
