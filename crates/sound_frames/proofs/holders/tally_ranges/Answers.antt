-- The answers for `tally_ranges`.
use mathlib.Core.Path.{refl}
use native.Mathlib.Omega.{arith}
use Rattle.sound_frames.specs.Held.{range_held}
use Rattle.sound_frames.specs.HeldLaws.{held_range, free_holds}
use Rattle.sound_frames.specs.TallyLaws.{counts_few, counts_more, counts_skip, counts_to}
use Rattle.sound_frames.proofs.holders.tally_ranges.Goals as goal

pub loop-k-init : goal.loop-k-init
loop-k-init c = c.requires.counts

pub overflow_sub-k : goal.overflow_sub-k
overflow_sub-k c = omega arith

pub region_at-region-requires : goal.region_at-region-requires
region_at-region-requires c = let h = c.loop-k-test.true in record { words_len = c.requires.words_len; i_bound = omega arith }

pub loop-k-preserved-then-region-eq-FREE : goal.loop-k-preserved-then-region-eq-FREE
loop-k-preserved-then-region-eq-FREE c = let t = c.loop-k-test.true in counts_skip _ _ _ c.loop-k.invariant (omega arith) (range_held c.region_at-region.result) (held_range c.args.words.now c.loop-k.k _ c.loop-k.auto.k c.region_at-region.result c.region_at-region.ensures refl) (free_holds c.region_at-region.result c.if-region-eq-FREE.true)

pub loop-k-preserved-then-frame-eq-FRAMES : goal.loop-k-preserved-then-frame-eq-FRAMES
loop-k-preserved-then-frame-eq-FRAMES c = let t = c.loop-k-test.true in counts_skip _ _ _ c.loop-k.invariant (omega arith) c.by_range-h.result (held_range c.args.words.now c.loop-k.k _ c.loop-k.auto.k c.region_at-region.result c.region_at-region.ensures c.by_range-h.ensures.value) c.if-frame-eq-FRAMES.true

pub offset_bounds-counts-frame : goal.offset_bounds-counts-frame
offset_bounds-counts-frame c = let l = c.by_range-h.ensures.frame_bound in let n = c.if-frame-eq-FRAMES.false in let s = c.loop-k.invariant.sized in omega arith

pub bounds-counts-frame : goal.bounds-counts-frame
bounds-counts-frame c = let l = c.by_range-h.ensures.frame_bound in let n = c.if-frame-eq-FRAMES.false in let s = c.loop-k.invariant.sized in omega arith

pub overflow_add-counts : goal.overflow_add-counts
overflow_add-counts c = let l = c.by_range-h.ensures.frame_bound in let n = c.if-frame-eq-FRAMES.false in let few = counts_few _ _ _ c.loop-k.invariant c.by_range-h.result.frame (omega arith) in let h = c.loop-k-test.true in omega arith

pub bounds-counts-frame-in-loop-k : goal.bounds-counts-frame-in-loop-k
bounds-counts-frame-in-loop-k c = let l = c.by_range-h.ensures.frame_bound in let n = c.if-frame-eq-FRAMES.false in let s = c.loop-k.invariant.sized in omega arith

pub loop-k-preserved : goal.loop-k-preserved
loop-k-preserved c = let t = c.loop-k-test.true in let l = c.by_range-h.ensures.frame_bound in let n = c.if-frame-eq-FRAMES.false in counts_more _ _ _ c.loop-k.invariant (omega arith) c.by_range-h.result (held_range c.args.words.now c.loop-k.k _ c.loop-k.auto.k c.region_at-region.result c.region_at-region.ensures c.by_range-h.ensures.value) (omega arith)

pub shape_of-counts : goal.shape_of-counts
shape_of-counts c = let a = c.loop-k.invariant.sized in let b = c.requires.counts.sized in omega arith

pub returns : goal.returns
returns c = let h = c.loop-k-test.false in let l = c.loop-k.invariant.low in counts_to _ _ _ c.loop-k.invariant 1024 (omega arith)
