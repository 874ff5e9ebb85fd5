-- `pin_core`: the region that is named gets one pin more, or why not.
use Rattle.std.proofs.lemmas.Result.{err_from_is_err_and}
use native.Mathlib.Omega.{arith}
use Rattle.lookup.specs.NamedLaws.{named_slot, named_no}
use Rattle.lookup.specs.NamedSlotLaws.{named_small}
use Rattle.pins.specs.PinCallLaws.{pin_refused, pin_full, pin_done}
use borrow.Author.Rules.{rules}
use Rattle.pins.proofs.pin_core.Goals as goal

pub returns-in_err-slot : goal.returns-in_err-slot
returns-in_err-slot c =
    let p = err_from_is_err_and c.from_residual.result c.from_residual.ensures.1 in
    rw (p.1, p.2) (pin_refused _ _ _ _ (named_no _ _ _ _ c.region_named.ensures c.in_err-slot.was))

pub region_in-region-requires : goal.region_in-region-requires
region_in-region-requires c = let small = named_small _ c.requires.sound_words _ _ _ _ c.region_named.ensures c.in_ok-slot.was in record { words_len = search rules; process_bound = search rules }

pub returns-then-region-ge-MOST_PINS : goal.returns-then-region-ge-MOST_PINS
returns-then-region-ge-MOST_PINS c = let named = named_slot _ _ _ _ c.region_named.ensures c.in_ok-slot.was in pin_full _ _ _ named.0 _ named.1 _ c.region_in-region.ensures c.if-region-ge-MOST_PINS.true

pub overflow_mul-process : goal.overflow_mul-process
overflow_mul-process c = let small = named_small _ c.requires.sound_words _ _ _ _ c.region_named.ensures c.in_ok-slot.was in omega arith

pub overflow_add-process : goal.overflow_add-process
overflow_add-process c = let small = named_small _ c.requires.sound_words _ _ _ _ c.region_named.ensures c.in_ok-slot.was in omega arith

pub put_region-requires : goal.put_region-requires
put_region-requires c =
    let small = named_small _ c.requires.sound_words _ _ _ _ c.region_named.ensures c.in_ok-slot.was in record { words_len = c.requires.words_len; i_bound = omega arith }

pub returns : goal.returns
returns c = let named = named_slot _ _ _ _ c.region_named.ensures c.in_ok-slot.was in pin_done _ _ _ named.0 _ named.1 _ c.region_in-region.ensures c.if-region-ge-MOST_PINS.false _ c.with_pins-row.ensures _ c.put_region.ensures
