-- `is_held` is held_times: one law a way.
use Rattle.sound_frames.specs.TallyLaws.{no_backing_past, no_holder, some_holders}
use Rattle.sound_frames.proofs.holders.is_held.Goals as goal

pub returns-then-b-eq0 : goal.returns-then-b-eq0
returns-then-b-eq0 c = no_backing_past c.args.times c.args.b c.if-b-eq0.true

pub returns-then-b-eq0-2 : goal.returns-then-b-eq0-2
returns-then-b-eq0-2 c = no_holder c.args.times c.args.b c.if-b-eq0.false c.if-b-eq0-2.true

pub returns : goal.returns
returns c = some_holders c.args.times c.args.b c.if-b-eq0.false c.if-b-eq0-2.false
