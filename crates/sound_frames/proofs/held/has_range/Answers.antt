-- `has_range` tests a slot.
use Rattle.sound_frames.specs.HeldLaws.{unused_range, used_range}
use Rattle.sound_frames.proofs.held.has_range.Goals as goal

pub returns-then-region-eq-FREE : goal.returns-then-region-eq-FREE
returns-then-region-eq-FREE c = unused_range c.args.region c.if-region-eq-FREE.true

pub returns : goal.returns
returns c = used_range c.args.region c.if-region-eq-FREE.false
