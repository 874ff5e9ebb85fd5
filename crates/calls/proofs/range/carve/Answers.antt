-- `carve`: memory for too few starts, an unsound machine, or the core.
use mathlib.Core.Path.{sym, ◌∙◌}
use Rattle.calls.specs.AnsweredLaws.{sound_length, sound_words}
use Rattle.calls.specs.RanLaws.{carve_short, carve_unsound, carve_sound}
use Rattle.calls.proofs.range.carve.Goals as goal

pub returns-then-starts-ne-SLOTS : goal.returns-then-starts-ne-SLOTS
returns-then-starts-ne-SLOTS c = carve_short _ _ _ _ _ _ _ c.if-starts-ne-SLOTS.true _ c.none.ensures

pub returns-then-not-is_sound : goal.returns-then-not-is_sound
returns-then-not-is_sound c = carve_unsound _ _ _ _ _ _ _ c.if-starts-ne-SLOTS.false (sym c.is_sound.ensures ∙ c.if-not-is_sound.true) _ c.put_none.ensures.value _ c.put_none.ensures.starts_after

pub carve_core-requires : goal.carve_core-requires
carve_core-requires c = let told = sym c.is_sound.ensures ∙ c.if-not-is_sound.false in record { words_len = sound_length _ _ _ told; starts_len = c.if-starts-ne-SLOTS.false; sound_words = sound_words _ _ _ told }

pub returns : goal.returns
returns c = carve_sound _ _ _ _ _ _ _ c.if-starts-ne-SLOTS.false (sym c.is_sound.ensures ∙ c.if-not-is_sound.false) _ _ _ c.carve_core.ensures
