-- `sound`: the soundness test is the call.
use mathlib.Core.Path.{sym, ◌∙◌}
use Rattle.calls.specs.AnsweredLaws.{looked, bad_table, sound_answers}
use Rattle.calls.specs.UnsoundLaws.{sound_unsound}
use Rattle.calls.proofs.processes.sound.Goals as goal

pub returns-then-not-is_sound : goal.returns-then-not-is_sound
returns-then-not-is_sound c = bad_table _ _ (λ s e. sound_unsound s e) _ _ _ (sym c.is_sound.ensures ∙ c.if-not-is_sound.true)

pub returns-else-not-is_sound : goal.returns-else-not-is_sound
returns-else-not-is_sound c = looked _ _ _ (sym c.is_sound.ensures ∙ c.if-not-is_sound.false) _ _ _ (sound_answers _)
