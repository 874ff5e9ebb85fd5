-- `eager_slot`: not copied eagerly, or all its pages visited.
use Rattle.std.proofs.lemmas.Bool.{not_from_true, not_from_false}
use native.Mathlib.Omega.{arith}
use Rattle.populate_eager.specs.TourLaws.{slot_not, slot_size, slot_visits}
use borrow.Author.Rules.{rules}
use Rattle.populate_eager.proofs.eager_slot.Goals as goal

pub returns-then-not-is_eager : goal.returns-then-not-is_eager
returns-then-not-is_eager c = slot_not _ _ _ c.requires.files_value _ _ _ c.region_in-region.ensures _ c.is_eager.ensures (not_from_false _ c.if-not-is_eager.true)

pub overflow_sub-region : goal.overflow_sub-region
overflow_sub-region c =
    let k = slot_size _ _ _ c.requires.files_value _ _ _ c.region_in-region.ensures _ c.is_eager.ensures (not_from_true _ c.if-not-is_eager.false) in
    let a = k.0 in
    let d = k.1 in
    omega arith

pub overflow_add-region : goal.overflow_add-region
overflow_add-region c =
    let k = slot_size _ _ _ c.requires.files_value _ _ _ c.region_in-region.ensures _ c.is_eager.ensures (not_from_true _ c.if-not-is_eager.false) in
    let a = k.0 in
    let d = k.1 in
    omega arith

pub visit-requires : goal.visit-requires
visit-requires c =
    let k = slot_size _ _ _ c.requires.files_value _ _ _ c.region_in-region.ensures _ c.is_eager.ensures (not_from_true _ c.if-not-is_eager.false) in
    let a = k.0 in
    let d = k.1 in
    let e = c.containing_address-last.ensures in record { words_len = search rules; files_value = c.requires.files_value; process_bound = c.requires.process_bound; last_bound = omega arith }

pub returns : goal.returns
returns c =
    slot_visits _ _ _ c.requires.files_value _ _ _ c.region_in-region.ensures _ c.is_eager.ensures (not_from_true _ c.if-not-is_eager.false) _ _ _ c.containing_address-first.ensures c.containing_address-last.ensures c.is_writable-write.ensures _ _ _ c.visit.ensures
