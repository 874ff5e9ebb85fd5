-- `first_mark` is first_mark.
use Rattle.sound_frames.specs.OnePageLaws.{new_mark, old_mark}
use Rattle.sound_frames.proofs.onepage.first_mark.Goals as goal

pub returns-then-mark-eq0 : goal.returns-then-mark-eq0
returns-then-mark-eq0 c = new_mark c.args.mark c.args.number c.if-mark-eq0.true

pub returns : goal.returns
returns c = old_mark c.args.mark c.args.number c.if-mark-eq0.false
