-- `step_row`: one step, and its answer put over zeros.
use mathlib.Core.Path.{refl, ◌∙◌}
use native.Mathlib.Omega.{arith}
use Rattle.calls.specs.AnsweredLaws.{sound_length, sound_state}
use Rattle.call_runs.specs.OneLaws.{one_sound, step_sound}
use Rattle.call_runs.specs.RowLaws.{behind_two, row_long, starts_lent, starts_long, lent_long, out_long, told_long, row_put, row_kept}
use Rattle.call_runs.proofs.row.step_row.Goals as goal

pub slice_bounds-step-count : goal.slice_bounds-step-count
slice_bounds-step-count c = let l = row_long c.args.row.now c.requires.row_value in omega arith

pub slice_bounds-step-start : goal.slice_bounds-step-start
slice_bounds-step-start c = let l = row_long c.args.row.now c.requires.row_value in omega arith

pub step-answer-requires : goal.step-answer-requires
step-answer-requires c = record { words_len = sound_length _ _ _ c.requires.files_value; starts_len = starts_long c.args.row.now c.requires.row_value (behind_two c.args.row.now) refl; files_value = sound_state _ _ _ c.requires.files_value }

pub slice_bounds-tell_answer-count : goal.slice_bounds-tell_answer-count
slice_bounds-tell_answer-count c = let l = lent_long c.args.row.now c.requires.row_value c.step-answer.new.starts c.step-answer.auto.starts in omega arith

pub slice_bounds-tell_answer-start : goal.slice_bounds-tell_answer-start
slice_bounds-tell_answer-start c = let l = lent_long c.args.row.now c.requires.row_value c.step-answer.new.starts c.step-answer.auto.starts in omega arith

pub tell_answer-requires : goal.tell_answer-requires
tell_answer-requires c = out_long c.args.row.now c.requires.row_value c.step-answer.new.starts c.step-answer.auto.starts

pub bounds-row-0 : goal.bounds-row-0
bounds-row-0 c = let l = told_long c.args.row.now c.requires.row_value c.step-answer.new.starts c.step-answer.auto.starts _ _ c.tell_answer.ensures.out_after in omega arith

pub shape_of-row : goal.shape_of-row
shape_of-row c = row_kept c.args.row.now c.requires.row_value c.step-answer.new.starts c.step-answer.auto.starts _ _ c.tell_answer.ensures.out_after _

pub returns : goal.returns
returns c = record { ran_one = one_sound _ _ _ _ _ c.requires.call_value c.requires.asked_value c.requires.files_value _ _ _ _ _ c.step-answer.ensures.does_with (λ k. c.step-answer.ensures.starts_unchanged k ∙ starts_lent c.args.row.now c.requires.row_value) (starts_long c.args.row.now c.requires.row_value c.step-answer.new.starts c.step-answer.auto.starts) (row_put c.args.row.now c.requires.row_value c.step-answer.new.starts c.step-answer.auto.starts _ _ c.tell_answer.ensures.out_after _ _ c.tell_answer.ensures.value); true_value = step_sound _ _ _ _ _ _ _ c.requires.files_value c.step-answer.ensures.does_with c.step-answer.auto.words }
