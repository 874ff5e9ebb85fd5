-- The answers for `main`.
use Rattle.std.proofs.Common.{sym, refl, ◌∙◌, arith, rules}
use Rattle.script.specs.SessionLaws.{kept_in, reads_in}
use Rattle.script.proofs.main.Goals as goal

pub loop-turns-init : goal.loop-turns-init
loop-turns-init c = (search rules, c.line-line.ensures, search rules, c.words-words.ensures, c.frames-frames.ensures, c.files-files.ensures, c.starts-starts.ensures, c.new-session.ensures.kept 65536 16384 1048576 262144 64 (omega arith) (omega arith), c.new-session.ensures.by_index 16384)

pub slice_bounds-filled-end : goal.slice_bounds-filled-end
slice_bounds-filled-end c = c.loop-turns.invariant.0

pub slice_bounds-filled-end-in-loop-turns : goal.slice_bounds-filled-end-in-loop-turns
slice_bounds-filled-end-in-loop-turns c = c.loop-turns.invariant.2

pub filled-requires : goal.filled-requires
filled-requires c = let inv = c.loop-turns.invariant in let at = inv.7.at in let out = inv.2 in record { at_in_bounds = omega arith; reads = reads_in _ _ _ _ inv.0 inv.8 }

pub slice_bounds-gathered-end : goal.slice_bounds-gathered-end
slice_bounds-gathered-end c = c.loop-turns.invariant.0 ∙ sym c.filled.auto.input

pub slice_bounds-gathered-end-in-loop-turns : goal.slice_bounds-gathered-end-in-loop-turns
slice_bounds-gathered-end-in-loop-turns c = c.loop-turns.invariant.1

pub gathered-session-requires : goal.gathered-session-requires
gathered-session-requires c = let inv = c.loop-turns.invariant in let kept = c.in_ok-session.ensures.kept 65536 1048576 262144 64 (kept_in _ _ _ _ _ _ _ _ _ _ _ refl inv.2 refl refl refl inv.7) in let held = kept.held in let line = inv.1 in record { len_in_bounds = omega arith; reads = reads_in _ _ _ _ (sym c.filled.auto.input) c.in_ok-session.ensures.reads_2 }

pub slice_bounds-answered-end : goal.slice_bounds-answered-end
slice_bounds-answered-end c = c.loop-turns.invariant.1 ∙ sym c.gathered-session.auto.line

pub slice_bounds-answered-end-in-loop-turns : goal.slice_bounds-answered-end-in-loop-turns
slice_bounds-answered-end-in-loop-turns c = c.loop-turns.invariant.2

pub slice_bounds-answered-end-in-loop-turns-2 : goal.slice_bounds-answered-end-in-loop-turns-2
slice_bounds-answered-end-in-loop-turns-2 c = c.loop-turns.invariant.3

pub slice_bounds-answered-end-in-loop-turns-3 : goal.slice_bounds-answered-end-in-loop-turns-3
slice_bounds-answered-end-in-loop-turns-3 c = c.loop-turns.invariant.4

pub slice_bounds-answered-end-in-loop-turns-4 : goal.slice_bounds-answered-end-in-loop-turns-4
slice_bounds-answered-end-in-loop-turns-4 c = c.loop-turns.invariant.5

pub slice_bounds-answered-end-in-loop-turns-5 : goal.slice_bounds-answered-end-in-loop-turns-5
slice_bounds-answered-end-in-loop-turns-5 c = c.loop-turns.invariant.6

pub answered-requires : goal.answered-requires
answered-requires c = let inv = c.loop-turns.invariant in let kept = c.in_ok-session.ensures.kept 65536 1048576 262144 64 (kept_in _ _ _ _ _ _ _ _ _ _ _ refl inv.2 refl refl refl inv.7) in kept_in _ _ _ _ _ _ _ _ _ _ _ (sym c.gathered-session.auto.line) refl refl refl refl (c.gathered-session.ensures.kept _ _ _ _ (kept_in _ _ _ _ _ _ _ _ _ _ _ inv.1 refl inv.4 inv.5 inv.6 kept))

pub overflow_sub-turns : goal.overflow_sub-turns
overflow_sub-turns c = let more = c.loop-turns-test.true in omega arith

pub loop-turns-smaller : goal.loop-turns-smaller
loop-turns-smaller c = let more = c.loop-turns-test.true in omega arith

pub loop-turns-preserved : goal.loop-turns-preserved
loop-turns-preserved c = let inv = c.loop-turns.invariant in let k = c.answered.auto in let input = inv.0 ∙ sym c.filled.auto.input in let line = inv.1 ∙ sym c.gathered-session.auto.line in (input, line, inv.2 ∙ sym k.out, inv.3 ∙ sym k.words, inv.4 ∙ sym k.frames, inv.5 ∙ sym k.files, inv.6 ∙ sym k.starts, kept_in _ _ _ _ _ _ _ _ _ _ _ (sym line) (sym inv.2) (sym inv.4) (sym inv.5) (sym inv.6) c.in_ok-session-2.ensures.kept, c.in_ok-session-2.ensures.by_index 16384 (reads_in _ _ _ _ (sym input) c.gathered-session.ensures.reads_2))
