-- `frames_zero`: a frame that is there, or none.
use Rattle.std.proofs.Common.{sym, ◌∙◌}
use Rattle.bench_c.specs.FramesOnLaws.{there, not_there}
use Rattle.bench_c.proofs.copies.frames_zero.Goals as goal

pub returns-then-f-frames : goal.returns-then-f-frames
returns-then-f-frames c =
    c.zero.ensures ∙ sym (there c.args.frames.now c.args.f _ c.if-f-frames.true)

pub returns-else-f-frames : goal.returns-else-f-frames
returns-else-f-frames c = sym (not_there c.args.frames.now c.args.f _ c.if-f-frames.false)
