-- The answers for `entries_alike`.
use mathlib.Core.Path.{sym, ◌∙◌}
use lib.ListN.{length-set}
use native.Mathlib.Omega.{arith}
use Rattle.sound_frames.specs.HeldLaws.{held_entry}
use Rattle.sound_frames.specs.OnePageLaws.{firsts_skip, firsts_more, firsts_fail, firsts_to, mark_bounds}
use Rattle.sound_frames.proofs.onepage.entries_alike.Goals as goal

pub loop-k-init : goal.loop-k-init
loop-k-init c = c.requires.firsts

pub loop-k-preserved-then-frame-eq-FRAMES : goal.loop-k-preserved-then-frame-eq-FRAMES
loop-k-preserved-then-frame-eq-FRAMES c = let h = c.loop-k-test.true in firsts_skip _ _ _ c.loop-k.invariant (omega arith) c.by_entry-h.result (held_entry c.args.words.now c.loop-k.k _ c.loop-k-test.true c.entry_at-entry.result c.entry_at-entry.ensures c.by_entry-h.ensures.value) c.if-frame-eq-FRAMES.true

pub offset_bounds-marks-frame : goal.offset_bounds-marks-frame
offset_bounds-marks-frame c = let l = c.by_entry-h.ensures.frame_bound in omega arith

pub bounds-marks-frame : goal.bounds-marks-frame
bounds-marks-frame c = let l = c.by_entry-h.ensures.frame_bound in let n = c.if-frame-eq-FRAMES.false in let s = c.loop-k.invariant.sized in omega arith

pub offset_bounds-marks-frame-in-loop-k : goal.offset_bounds-marks-frame-in-loop-k
offset_bounds-marks-frame-in-loop-k c = let l = c.by_entry-h.ensures.frame_bound in omega arith

pub bounds-marks-frame-in-loop-k : goal.bounds-marks-frame-in-loop-k
bounds-marks-frame-in-loop-k c = let l = c.by_entry-h.ensures.frame_bound in let n = c.if-frame-eq-FRAMES.false in let s = c.loop-k.invariant.sized in omega arith

pub overflow_sub-mark : goal.overflow_sub-mark
overflow_sub-mark c = let l = c.by_entry-h.ensures.frame_bound in let n = c.if-frame-eq-FRAMES.false in let b = (mark_bounds _ c.loop-k.k c.first_mark-mark.result (c.loop-k.invariant.few c.by_entry-h.result.frame (omega arith)) c.first_mark-mark.ensures).0 in omega arith

pub holds_as-requires : goal.holds_as-requires
holds_as-requires c = let l = c.by_entry-h.ensures.frame_bound in let n = c.if-frame-eq-FRAMES.false in let b = mark_bounds _ c.loop-k.k c.first_mark-mark.result (c.loop-k.invariant.few c.by_entry-h.result.frame (omega arith)) c.first_mark-mark.ensures in let least = b.0 in let most = b.1 in let h = c.loop-k-test.true in record { words_len = c.requires.words_len; first_bound = omega arith }

pub shape_of-marks-then-not-holds_as : goal.shape_of-marks-then-not-holds_as
shape_of-marks-then-not-holds_as c = let a = c.loop-k.invariant.sized in let b = c.requires.firsts.sized in let e = length-set c.loop-k.marks c.by_entry-h.result.frame c.first_mark-mark.result in omega arith

pub returns-then-not-holds_as : goal.returns-then-not-holds_as
returns-then-not-holds_as c = let l = c.by_entry-h.ensures.frame_bound in let n = c.if-frame-eq-FRAMES.false in let h = c.loop-k-test.true in firsts_fail _ _ _ c.loop-k.invariant (omega arith) c.by_entry-h.result (held_entry c.args.words.now c.loop-k.k _ c.loop-k-test.true c.entry_at-entry.result c.entry_at-entry.ensures c.by_entry-h.ensures.value) (omega arith) c.first_mark-mark.result c.first_mark-mark.ensures (sym c.holds_as.ensures ∙ c.if-not-holds_as.true)

pub loop-k-preserved : goal.loop-k-preserved
loop-k-preserved c = let l = c.by_entry-h.ensures.frame_bound in let n = c.if-frame-eq-FRAMES.false in let h = c.loop-k-test.true in firsts_more _ _ _ c.loop-k.invariant (omega arith) c.by_entry-h.result (held_entry c.args.words.now c.loop-k.k _ c.loop-k-test.true c.entry_at-entry.result c.entry_at-entry.ensures c.by_entry-h.ensures.value) (omega arith) c.first_mark-mark.result c.first_mark-mark.ensures (sym c.holds_as.ensures ∙ c.if-not-holds_as.false)

pub returns : goal.returns
returns c = let h = c.loop-k-test.false in let m = c.loop-k.invariant.low in firsts_to _ _ _ 512 c.loop-k.invariant (omega arith)
