-- `unmapped_full`: the page is mapped, or the room decides.
use mathlib.Core.Path.{sym, ◌∙◌}
use Rattle.fault_way.specs.WayLaws.{words_translate, told_none, told_some}
use Rattle.fault_needs.specs.WayNeedsLaws.{full_mapped, full_unmapped}
use Rattle.fault_needs.proofs.unmapped_full.Goals as goal

pub returns-then-is_some : goal.returns-then-is_some
returns-then-is_some c =
    let some = told_some _ (sym c.is_some.ensures ∙ c.if-is_some.true) in
    full_mapped _ _ _ _ (words_translate _ c.requires.sound_words _ c.requires.process_bound _ _ c.translate.ensures) some.0 some.1

pub returns : goal.returns
returns c = full_unmapped _ _ _ _ (words_translate _ c.requires.sound_words _ c.requires.process_bound _ _ c.translate.ensures) (told_none _ (sym c.is_some.ensures ∙ c.if-is_some.false)) _ c.no_room.ensures
