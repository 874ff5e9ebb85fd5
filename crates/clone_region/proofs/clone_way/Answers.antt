-- `clone_way`: the refusals of a clone, in their order.
use Rattle.std.specs.Prelude.{◌≡◌, Err}
use borrow.Author.Rules.{rules}
use mathlib.Core.Path.{ap, sym, ◌∙◌}
use Rattle.clone_region.specs.CloneWayLaws.{range_fits, way_reserved, way_slots, way_entries, way_frames, way_free, not_there, is_there}
use Rattle.clone_region.proofs.clone_way.Goals as goal

pub returns-then-reserved : goal.returns-then-reserved
returns-then-reserved c =
    let from = c.args in
    way_reserved from.words.now c.requires.sound_words from.process from.slot from.target _ c.region_in-region.ensures _ c.segment_len.ensures _ c.reserved.ensures c.if-reserved.true

pub returns-in_err-free : goal.returns-in_err-free
returns-in_err-free c =
    let from = c.args in
    let e : c.from_residual.result ≡ Err c.in_err-free.field-0.0 = search rules in
    let none = not_there _ _ _ (sym c.ok_or.ensures.value ∙ c.in_err-free.was) in
    e ∙ ap (λ r. Err r) none.1 ∙ way_slots from.words.now c.requires.sound_words from.process from.slot from.target _ c.region_in-region.ensures _ c.segment_len.ensures _ c.reserved.ensures c.if-reserved.false (none.0 ∙ c.free_slot.ensures)

pub entries_needed-needed-requires : goal.entries_needed-needed-requires
entries_needed-needed-requires c =
    let fits = range_fits c.args.words.now c.requires.sound_words _ in record { words_len = c.requires.words_len; process_bound = c.requires.process_bound; slot_bound = c.requires.slot_bound; slot_bound_2 = fits }

pub returns-then-free_entries-needed : goal.returns-then-free_entries-needed
returns-then-free_entries-needed c =
    let from = c.args in
    way_entries from.words.now c.requires.sound_words from.process from.slot from.target _ c.region_in-region.ensures _ c.segment_len.ensures _ c.reserved.ensures c.if-reserved.false _ (is_there _ _ _ (sym c.ok_or.ensures.value ∙ c.in_ok-free.was) ∙ c.free_slot.ensures) _ c.entries_needed-needed.ensures _ c.free_entries.ensures c.if-free_entries-needed.true

pub returns-then-lacks_frames : goal.returns-then-lacks_frames
returns-then-lacks_frames c =
    let from = c.args in
    way_frames from.words.now c.requires.sound_words from.process from.slot from.target _ c.region_in-region.ensures _ c.segment_len.ensures _ c.reserved.ensures c.if-reserved.false _ (is_there _ _ _ (sym c.ok_or.ensures.value ∙ c.in_ok-free.was) ∙ c.free_slot.ensures) _ c.entries_needed-needed.ensures _ c.free_entries.ensures c.if-free_entries-needed.false _ c.lacks_frames.ensures c.if-lacks_frames.true

pub returns : goal.returns
returns c =
    let from = c.args in
    way_free from.words.now c.requires.sound_words from.process from.slot from.target _ c.region_in-region.ensures _ c.segment_len.ensures _ c.reserved.ensures c.if-reserved.false _ (is_there _ _ _ (sym c.ok_or.ensures.value ∙ c.in_ok-free.was) ∙ c.free_slot.ensures) _ c.entries_needed-needed.ensures _ c.free_entries.ensures c.if-free_entries-needed.false _ c.lacks_frames.ensures c.if-lacks_frames.false
