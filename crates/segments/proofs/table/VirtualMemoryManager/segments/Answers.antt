-- `VirtualMemoryManager::segments` is list_call.
use mathlib.Core.Path.{sym, ◌∙◌}
use Rattle.segments.specs.CallLaws.{list_unsound, list_held, sound_most}
use Rattle.segments.proofs.table.VirtualMemoryManager.segments.Goals as goal

pub returns-then-not-is_sound : goal.returns-then-not-is_sound
returns-then-not-is_sound c = list_unsound _ _ c.is_sound.ensures c.if-not-is_sound.true

pub rows-requires : goal.rows-requires
rows-requires c = sound_most _ (sym c.is_sound.ensures ∙ c.if-not-is_sound.false)

pub returns : goal.returns
returns c = list_held _ _ c.is_sound.ensures c.if-not-is_sound.false _ c.rows.ensures
