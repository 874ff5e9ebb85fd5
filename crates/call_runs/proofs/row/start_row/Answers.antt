-- `start_row`: granted, the machine is sound; refused, it is what it was.
use mathlib.Core.Path.{ap, sym, ◌∙◌}
use mathlib.Core.List.{List}
use Prim.Native.Nat.{ℕ}
use native.Mathlib.Omega.{arith}
use Rattle.soundness.specs.SoundLent.{sound_lent}
use Rattle.call_rows.specs.AskedLaws.{started}
use Rattle.call_runs.specs.OneLaws.{one_started, started_sound}
use Rattle.call_runs.specs.RowLaws.{row_long, number_put}
use Rattle.call_runs.proofs.row.start_row.Goals as goal

pub slice_bounds-start-count : goal.slice_bounds-start-count
slice_bounds-start-count c = started c.args.call.now c.requires.call_value

pub slice_bounds-start-start : goal.slice_bounds-start-start
slice_bounds-start-start c = started c.args.call.now c.requires.call_value

pub bounds-row-0 : goal.bounds-row-0
bounds-row-0 c = let l = row_long c.args.row.now c.requires.row_value in omega arith

pub returns-in-Ok : goal.returns-in-Ok
returns-in-Ok c = record { ran_one = one_started _ _ _ _ c.requires.call_value _ _ _ c.start-answer.ensures (number_put c.args.row.now c.requires.row_value _ _ c.tell_done.ensures); value = started_sound _ _ _ _ _ _ (sym c.in-Ok.is) c.start-answer.ensures c.start-answer.auto.words }

pub returns-in-Err : goal.returns-in-Err
returns-in-Err c = record { ran_one = one_started _ _ _ _ c.requires.call_value _ _ _ c.start-answer.ensures (number_put c.args.row.now c.requires.row_value _ _ c.tell_done.ensures); value = c.requires.sound_value ∙ ap (λ (w : List ℕ). sound_lent w c.args.frames.now c.args.files.now) (sym (c.start-answer.ensures.1 _ c.in-Err.is)) }
