-- The answers for `run_all`.
use mathlib.Core.Path.{refl, sym, ◌∙◌}
use Prim.Native.Nat.{◌+◌, ◌*◌}
use native.Mathlib.Omega.{arith}
use borrow.Author.Rules.{rules}
use Rattle.call_runs.specs.RowLaws.{row_lent}
use Rattle.call_runs.specs.RunAllLaws.{sofar_none, sofar_full, sofar_ended, sofar_more, one_left}
use Rattle.call_runs.proofs.run_all.Goals as goal

pub loop-ran-init : goal.loop-ran-init
loop-ran-init c = sofar_none _ _ _ _ _ _ c.is_sound-sound.ensures

pub call_end-end-requires : goal.call_end-end-requires
call_end-end-requires c = c.loop-ran.invariant.within

pub shape_of-words-then-end-eq0 : goal.shape_of-words-then-end-eq0
shape_of-words-then-end-eq0 c = c.loop-ran.invariant.words

pub shape_of-frames-then-end-eq0 : goal.shape_of-frames-then-end-eq0
shape_of-frames-then-end-eq0 c = c.loop-ran.invariant.frames

pub shape_of-answers-then-end-eq0 : goal.shape_of-answers-then-end-eq0
shape_of-answers-then-end-eq0 c = c.loop-ran.invariant.rows

pub returns-then-end-eq0 : goal.returns-then-end-eq0
returns-then-end-eq0 c = sofar_ended _ _ _ _ _ _ _ _ _ _ _ c.loop-ran.invariant (sym c.call_end-end.ensures ∙ c.if-end-eq0.true)

pub slice_bounds-run_row-count : goal.slice_bounds-run_row-count
slice_bounds-run_row-count c = let found = one_left _ _ _ c.loop-ran.invariant.within c.call_end-end.ensures c.if-end-eq0.false in found.0

pub slice_bounds-run_row-start : goal.slice_bounds-run_row-start
slice_bounds-run_row-start c = let found = one_left _ _ _ c.loop-ran.invariant.within c.call_end-end.ensures c.if-end-eq0.false in found.0

pub slice_bounds-run_row-end : goal.slice_bounds-run_row-end
slice_bounds-run_row-end c = let found = one_left _ _ _ c.loop-ran.invariant.within c.call_end-end.ensures c.if-end-eq0.false in found.1.0

pub slice_bounds-run_row-end-in-loop-ran : goal.slice_bounds-run_row-end-in-loop-ran
slice_bounds-run_row-end-in-loop-ran c = let long = c.loop-ran.invariant.rows in omega arith

pub run_row-sound-requires : goal.run_row-sound-requires
run_row-sound-requires c = let long = c.loop-ran.invariant.rows in record { row_len = row_lent c.loop-ran.answers (c.loop-ran.ran * 66) (c.loop-ran.ran * 66 + 66) refl (omega arith); sound_value = c.loop-ran.invariant.verdict }

pub loop-ran-preserved : goal.loop-ran-preserved
loop-ran-preserved c = sofar_more _ _ _ _ _ _ _ _ _ _ _ c.loop-ran.invariant _ _ _ c.call_end-end.ensures c.if-end-eq0.false c.loop-ran-test.true refl refl _ _ _ _ c.run_row-sound.ensures.ran_one c.run_row-sound.ensures.value c.run_row-sound.auto.words c.run_row-sound.auto.frames _ refl (search rules)

pub shape_of-words : goal.shape_of-words
shape_of-words c = c.loop-ran.invariant.words

pub shape_of-frames : goal.shape_of-frames
shape_of-frames c = c.loop-ran.invariant.frames

pub shape_of-answers : goal.shape_of-answers
shape_of-answers c = c.loop-ran.invariant.rows

pub returns : goal.returns
returns c = sofar_full _ _ _ _ _ _ _ _ _ _ _ c.loop-ran.invariant c.loop-ran-test.false
