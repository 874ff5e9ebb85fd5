-- `remove_core`: the region that is named is removed, or why there is none.
use Rattle.std.proofs.lemmas.Result.{err_from_is_err_and}
use Rattle.lookup.specs.NamedLaws.{named_slot, named_no}
use Rattle.lookup.specs.NamedSlotLaws.{named_small}
use Rattle.remove.specs.RemoveCallLaws.{remove_refused, remove_done}
use borrow.Author.Rules.{rules}
use Rattle.remove.proofs.cores.remove_core.Goals as goal

pub returns-in_err-slot : goal.returns-in_err-slot
returns-in_err-slot c =
    let p = err_from_is_err_and c.from_residual.result c.from_residual.ensures.1 in
    rw (p.1, p.2) (remove_refused _ _ _ _ (named_no _ _ _ _ c.region_named.ensures c.in_err-slot.was))

pub remove_region-requires : goal.remove_region-requires
remove_region-requires c = let small = named_small _ c.requires.sound_words _ _ _ _ c.region_named.ensures c.in_ok-slot.was in record { words_len = search rules; process_bound = search rules; slot_bound = search rules }

pub returns : goal.returns
returns c = let named = named_slot _ _ _ _ c.region_named.ensures c.in_ok-slot.was in let small = named_small _ c.requires.sound_words _ _ _ _ c.region_named.ensures c.in_ok-slot.was in remove_done _ _ _ named.0 small.0 _ named.1 _ c.remove_region.ensures
