-- `run_row`: start, no call, an unsound machine, or one step.
use mathlib.Core.Path.{sym, ◌∙◌}
use Rattle.call_runs.specs.OneLaws.{one_none, one_unsound}
use Rattle.call_runs.proofs.row.run_row.Goals as goal

pub start_row-requires : goal.start_row-requires
start_row-requires c = record { row_value = c.put_refusal.ensures; call_value = sym c.is_start.ensures ∙ c.if-is_start.true; sound_value = c.requires.sound_value }

pub returns-in_default : goal.returns-in_default
returns-in_default c = record { ran_one = one_none _ _ _ _ (sym c.is_start.ensures ∙ c.if-is_start.false) (sym c.in_default.is ∙ c.call_in.ensures) _ c.put_refusal.ensures; value = c.requires.sound_value }

pub returns-then-not-sound : goal.returns-then-not-sound
returns-then-not-sound c = record { ran_one = one_unsound _ _ _ _ _ (sym c.is_start.ensures ∙ c.if-is_start.false) (sym c.in-Some.is ∙ c.call_in.ensures) (sym c.requires.sound_value ∙ c.if-not-sound.true) _ c.put_refusal.ensures; value = sym c.if-not-sound.true ∙ c.requires.sound_value }

pub step_row-requires : goal.step_row-requires
step_row-requires c = record { row_value = c.put_refusal.ensures; call_value = sym c.is_start.ensures ∙ c.if-is_start.false; asked_value = sym c.in-Some.is ∙ c.call_in.ensures; files_value = sym c.requires.sound_value ∙ c.if-not-sound.false }
