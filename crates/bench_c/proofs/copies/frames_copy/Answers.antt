-- `frames_copy`: a frame that is there, or none.
use Rattle.std.proofs.Common.{sym, ◌∙◌}
use Rattle.bench_c.specs.FramesOnLaws.{there, not_there}
use Rattle.bench_c.proofs.copies.frames_copy.Goals as goal

pub returns-then-to-frames : goal.returns-then-to-frames
returns-then-to-frames c =
    c.copy.ensures
    ∙ sym
    (there c.args.frames.now c.args.from _ c.if-from-frames.true
    ∙ there c.args.frames.now c.args.to _ c.if-to-frames.true)

pub returns-else-to-frames : goal.returns-else-to-frames
returns-else-to-frames c =
    sym
    (there c.args.frames.now c.args.from _ c.if-from-frames.true
    ∙ not_there c.args.frames.now c.args.to _ c.if-to-frames.false)

pub returns-else-from-frames : goal.returns-else-from-frames
returns-else-from-frames c = sym (not_there c.args.frames.now c.args.from _ c.if-from-frames.false)
