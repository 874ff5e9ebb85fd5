-- `with_row` is with_row: one law a way.
use mathlib.Core.Path.{◌∙◌}
use Rattle.sound_frames.specs.MetLaws.{with_backing, with_covered, with_past, with_frame}
use Rattle.sound_frames.proofs.backings.with_row.Goals as goal

pub returns-then-len-ne0 : goal.returns-then-len-ne0
returns-then-len-ne0 c = with_backing c.args.count c.args.f c.args.len c.args.met c.if-len-ne0.true

pub returns-then-f-met : goal.returns-then-f-met
returns-then-f-met c = with_covered c.args.count c.args.f c.args.len c.args.met c.if-len-ne0.false c.if-f-met.true

pub returns-then-count-f : goal.returns-then-count-f
returns-then-count-f c = with_past c.args.count c.args.f c.args.len c.args.met c.if-len-ne0.false c.if-f-met.false c.if-count-f.true

pub returns : goal.returns
returns c = c.with_free.ensures ∙ with_frame c.args.count c.args.f c.args.len c.args.met c.if-len-ne0.false c.if-f-met.false c.if-count-f.false
