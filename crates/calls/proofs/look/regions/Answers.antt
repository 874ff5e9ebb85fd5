-- `regions`: memory for too few starts, an unsound machine, or the core.
use mathlib.Core.Path.{sym, ◌∙◌}
use Rattle.calls.specs.AnsweredLaws.{sound_length}
use Rattle.calls.specs.RanLaws.{regions_short, regions_unsound, regions_sound}
use Rattle.calls.proofs.look.regions.Goals as goal

pub returns-then-starts-ne-SLOTS : goal.returns-then-starts-ne-SLOTS
returns-then-starts-ne-SLOTS c = regions_short _ _ _ _ _ c.if-starts-ne-SLOTS.true _ c.none.ensures

pub returns-then-not-is_sound : goal.returns-then-not-is_sound
returns-then-not-is_sound c = regions_unsound _ _ _ _ _ c.if-starts-ne-SLOTS.false (sym c.is_sound.ensures ∙ c.if-not-is_sound.true) _ c.put_none.ensures.value _ c.put_none.ensures.starts_after

pub regions_core-requires : goal.regions_core-requires
regions_core-requires c = let told = sym c.is_sound.ensures ∙ c.if-not-is_sound.false in record { words_len = sound_length _ _ _ told; starts_len = c.if-starts-ne-SLOTS.false }

pub returns : goal.returns
returns c = regions_sound _ _ _ _ _ c.if-starts-ne-SLOTS.false (sym c.is_sound.ensures ∙ c.if-not-is_sound.false) _ _ c.regions_core.ensures
