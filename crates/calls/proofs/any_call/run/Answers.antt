-- `run`: memory for too few starts, an unsound machine, or one step.
use mathlib.Core.Path.{sym, ◌∙◌}
use Rattle.calls.specs.AnsweredLaws.{sound_length, sound_state}
use Rattle.calls.specs.RanLaws.{ran_short, ran_unsound, ran_sound}
use Rattle.calls.proofs.any_call.run.Goals as goal

pub returns-then-starts-ne-SLOTS : goal.returns-then-starts-ne-SLOTS
returns-then-starts-ne-SLOTS c = ran_short _ _ _ _ _ c.if-starts-ne-SLOTS.true _ c.refused.ensures

pub returns-then-not-is_sound : goal.returns-then-not-is_sound
returns-then-not-is_sound c = ran_unsound _ _ _ _ _ c.if-starts-ne-SLOTS.false (sym c.is_sound.ensures ∙ c.if-not-is_sound.true) _ c.refuse.ensures.value _ c.refuse.ensures.starts_after

pub step-requires : goal.step-requires
step-requires c = let told = sym c.is_sound.ensures ∙ c.if-not-is_sound.false in record { words_len = sound_length _ _ _ told; starts_len = c.if-starts-ne-SLOTS.false; files_value = sound_state _ _ _ told }

pub returns : goal.returns
returns c = ran_sound _ _ _ _ _ c.if-starts-ne-SLOTS.false (sym c.is_sound.ensures ∙ c.if-not-is_sound.false) _ _ _ _ c.step.ensures.does_with c.step.ensures.starts_unchanged c.step.ensures.result_value
