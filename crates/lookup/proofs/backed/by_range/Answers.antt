-- `by_range` is by_range: no range, a page past the range, a page in it.
use native.Mathlib.Omega.{arith}
use Rattle.model.specs.Layout.{machine}
use Rattle.lookup.specs.BackedLaws.{range_none, range_past, range_frame, frame_fits}
use Rattle.lookup.proofs.backed.by_range.Goals as goal

pub returns-then-region-ne1 : goal.returns-then-region-ne1
returns-then-region-ne1 c = range_none (machine c.args.words.now) c.args.region c.args.page.0 c.if-region-ne1.true

pub returns-then-b-offset : goal.returns-then-b-offset
returns-then-b-offset c = range_past (machine c.args.words.now) c.args.region c.args.page.0 _ c.pages_past-offset.ensures _ c.backing_from-b.ensures c.if-b-offset.true

pub overflow_add-result : goal.overflow_add-result
overflow_add-result c = let fits = frame_fits c.args.words.now c.args.region.range.0 _ _ c.backing_from-b.ensures c.if-b-offset.false c.requires.range_bound in omega arith

pub returns : goal.returns
returns c = range_frame (machine c.args.words.now) c.args.region c.args.page.0 c.if-region-ne1.false _ c.pages_past-offset.ensures _ c.backing_from-b.ensures c.if-b-offset.false
