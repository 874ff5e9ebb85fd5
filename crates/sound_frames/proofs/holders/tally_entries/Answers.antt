-- The answers for `tally_entries`.
use native.Mathlib.Omega.{arith}
use Rattle.sound_frames.specs.HeldLaws.{held_entry}
use Rattle.sound_frames.specs.TallyLaws.{counts_few, counts_more, counts_skip, counts_to}
use Rattle.sound_frames.proofs.holders.tally_entries.Goals as goal

pub loop-k-init : goal.loop-k-init
loop-k-init c = c.requires.counts

pub loop-k-preserved-then-frame-eq-FRAMES : goal.loop-k-preserved-then-frame-eq-FRAMES
loop-k-preserved-then-frame-eq-FRAMES c = let h = c.loop-k-test.true in counts_skip _ _ _ c.loop-k.invariant (omega arith) c.by_entry-h.result (held_entry c.args.words.now c.loop-k.k _ c.loop-k-test.true c.entry_at-entry.result c.entry_at-entry.ensures c.by_entry-h.ensures.value) c.if-frame-eq-FRAMES.true

pub offset_bounds-counts-frame : goal.offset_bounds-counts-frame
offset_bounds-counts-frame c = let l = c.by_entry-h.ensures.frame_bound in let n = c.if-frame-eq-FRAMES.false in let s = c.loop-k.invariant.sized in omega arith

pub bounds-counts-frame : goal.bounds-counts-frame
bounds-counts-frame c = let l = c.by_entry-h.ensures.frame_bound in let n = c.if-frame-eq-FRAMES.false in let s = c.loop-k.invariant.sized in omega arith

pub overflow_add-counts : goal.overflow_add-counts
overflow_add-counts c = let l = c.by_entry-h.ensures.frame_bound in let n = c.if-frame-eq-FRAMES.false in let few = counts_few _ _ _ c.loop-k.invariant c.by_entry-h.result.frame (omega arith) in let h = c.loop-k-test.true in omega arith

pub bounds-counts-frame-in-loop-k : goal.bounds-counts-frame-in-loop-k
bounds-counts-frame-in-loop-k c = let l = c.by_entry-h.ensures.frame_bound in let n = c.if-frame-eq-FRAMES.false in let s = c.loop-k.invariant.sized in omega arith

pub loop-k-preserved : goal.loop-k-preserved
loop-k-preserved c = let l = c.by_entry-h.ensures.frame_bound in let n = c.if-frame-eq-FRAMES.false in let h = c.loop-k-test.true in counts_more _ _ _ c.loop-k.invariant (omega arith) c.by_entry-h.result (held_entry c.args.words.now c.loop-k.k _ c.loop-k-test.true c.entry_at-entry.result c.entry_at-entry.ensures c.by_entry-h.ensures.value) (omega arith)

pub shape_of-counts : goal.shape_of-counts
shape_of-counts c = let a = c.loop-k.invariant.sized in let b = c.requires.counts.sized in omega arith

pub returns : goal.returns
returns c = let h = c.loop-k-test.false in counts_to _ _ _ c.loop-k.invariant 512 (omega arith)
