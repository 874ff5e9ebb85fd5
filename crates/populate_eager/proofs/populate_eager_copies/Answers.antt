-- The answers for `populate_eager_copies`.
use mathlib.Core.Path.{refl, ◌∙◌}
use native.Mathlib.Omega.{arith}
use Rattle.std.proofs.lemmas.Result.{err_from_is_err_and}
use Rattle.populate_eager.specs.TourLaws.{touring_first, touring_low, touring_next, touring_ends, touring_done}
use Rattle.populate_eager.proofs.populate_eager_copies.Goals as goal

pub loop-i-init : goal.loop-i-init
loop-i-init c =
    let value = c.attached_count-count.ensures.value in
    let most = c.attached_count-count.ensures.upper_bound in
    (refl, (refl, touring_first _ _ _ c.requires.files_value _ _ (omega arith) (omega arith)))

pub listed_slot-slot-requires : goal.listed_slot-slot-requires
listed_slot-slot-requires c =
    let more = c.loop-i-test.true in
    let low = touring_low _ _ _ _ _ _ _ c.loop-i.invariant.1.1 (omega arith) in
    record { words_len = c.loop-i.invariant.0 ∙ c.requires.words_len; process_bound = c.requires.process_bound; place_bound = low }

pub eager_slot-requires : goal.eager_slot-requires
eager_slot-requires c = record { words_len = c.loop-i.invariant.0 ∙ c.requires.words_len; files_value = c.loop-i.invariant.1.1.sound; process_bound = c.requires.process_bound }

pub returns-in_err-eager_slot : goal.returns-in_err-eager_slot
returns-in_err-eager_slot c =
    let p = err_from_is_err_and c.from_residual.result c.from_residual.ensures.1 in
    rw (p.1, p.2) (touring_ends _ _ _ _ _ _ _ _ c.loop-i.invariant.1.1 c.loop-i-test.true _ c.listed_slot-slot.ensures _ _ _ c.eager_slot.ensures _ c.in_err-eager_slot.was)

pub loop-i-preserved : goal.loop-i-preserved
loop-i-preserved c =
    (c.eager_slot.auto.words ∙ c.loop-i.invariant.0, (c.eager_slot.auto.frames ∙ c.loop-i.invariant.1.0, touring_next _ _ _ _ _ _ _ _ c.loop-i.invariant.1.1 c.loop-i-test.true _ c.listed_slot-slot.ensures _ _ _ c.eager_slot.ensures c.in_ok-eager_slot.was))

pub shape_of-words : goal.shape_of-words
shape_of-words c = c.loop-i.invariant.0

pub shape_of-frames : goal.shape_of-frames
shape_of-frames c = c.loop-i.invariant.1.0

pub returns : goal.returns
returns c = let none = c.loop-i-test.false in touring_done _ _ _ _ _ _ _ c.loop-i.invariant.1.1 (omega arith)
