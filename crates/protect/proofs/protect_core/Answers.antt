-- `protect_core`: the region that may be protected gets its flags, or why not.
use Rattle.std.proofs.lemmas.Result.{err_from_is_err_and}
use Rattle.lookup.specs.NamedLaws.{named_slot, named_no}
use Rattle.lookup.specs.NamedSlotLaws.{words_len}
use Rattle.protect.specs.ProtectCallLaws.{protect_refused, protect_small, protect_done}
use Rattle.protect.proofs.protect_core.Goals as goal

pub returns-in_err-slot : goal.returns-in_err-slot
returns-in_err-slot c =
    let from = c.args in
    let p = err_from_is_err_and c.from_residual.result c.from_residual.ensures.1 in
    rw (p.1, p.2) (protect_refused from.words.now from.process from.addr.0 from.flags _ (named_no _ _ _ _ c.protectable.ensures c.in_err-slot.was))

pub set_protection-requires : goal.set_protection-requires
set_protection-requires c =
    let from = c.args in
    let small = protect_small from.words.now from.process from.addr.0 from.flags c.requires.sound_words _ _ c.protectable.ensures c.in_ok-slot.was in record { words_len = c.requires.words_len; process_bound = small.0; slot_bound = small.1; range_fits = words_len from.words.now c.requires.sound_words _ }

pub returns : goal.returns
returns c =
    let from = c.args in
    let named = named_slot _ _ _ _ c.protectable.ensures c.in_ok-slot.was in
    let small = protect_small from.words.now from.process from.addr.0 from.flags c.requires.sound_words _ _ c.protectable.ensures c.in_ok-slot.was in
    protect_done from.words.now from.process from.addr.0 from.flags named.0 small.0 _ named.1 _ c.set_protection.ensures
