-- `with_free` is with_free: one law a way.
use Rattle.sound_frames.specs.MetLaws.{first_free, more_free}
use Rattle.sound_frames.proofs.backings.with_free.Goals as goal

pub returns-then-met-eq0 : goal.returns-then-met-eq0
returns-then-met-eq0 c = first_free _ c.args.met c.if-met-eq0.true

pub returns : goal.returns
returns c = more_free _ c.args.met c.if-met-eq0.false
