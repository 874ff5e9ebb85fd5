-- The answers for `find_overlapping_at`.
use Rattle.segment_search.specs.SegmentWordsLaws.{look_first, look_more, look_found, look_none}
use Rattle.segment_search.proofs.find_overlapping_at.Goals as goal

pub loop-i-init : goal.loop-i-init
loop-i-init c = look_first _ _ _ _

pub returns-then-overlaps : goal.returns-then-overlaps
returns-then-overlaps c = look_found _ _ _ _ c.loop-i.i c.loop-i.invariant c.loop-i-test.true _ c.overlaps.ensures c.if-overlaps.true

pub loop-i-preserved : goal.loop-i-preserved
loop-i-preserved c = look_more _ _ _ _ c.loop-i.i c.loop-i.invariant c.loop-i-test.true _ c.overlaps.ensures c.if-overlaps.false

pub returns : goal.returns
returns c = look_none _ _ _ _ c.loop-i.i c.loop-i.invariant c.loop-i-test.false
