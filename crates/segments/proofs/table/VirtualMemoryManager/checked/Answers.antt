-- `VirtualMemoryManager::checked` is checked_by.
use Rattle.segments.specs.CallLaws.{checked_unsound, checked_form}
use Rattle.segments.proofs.table.VirtualMemoryManager.checked.Goals as goal

pub returns-then-not-is_sound : goal.returns-then-not-is_sound
returns-then-not-is_sound c = checked_unsound _ c.args.segment _ c.is_sound.ensures c.if-not-is_sound.true

pub returns : goal.returns
returns c = checked_form _ _ _ c.is_sound.ensures c.if-not-is_sound.false _ c.form.ensures
