-- `share_into`: mappings demoted, the range held, the region added, its entries shared.
use mathlib.Core.Path.{◌∙◌}
use native.Mathlib.Omega.{arith}
use Rattle.clone_share.specs.ShareIntoLaws.{range_low, slot_low, place_left, shares, share_is}
use borrow.Author.Rules.{rules}
use Rattle.clone_share.proofs.share_into.Goals as goal

pub hold_range-requires : goal.hold_range-requires
hold_range-requires c =
    let from = c.args in
    let low = range_low from.words.now from.process from.slot from.target from.free c.requires.process_bound c.requires.slot_bound c.requires.target_bound c.requires.cloneable _ c.region_in-region.ensures in record { words_len = search rules; range_bound = search rules }

pub add_region-requires : goal.add_region-requires
add_region-requires c =
    let from = c.args in
    let low = slot_low from.words.now from.process from.slot from.target from.free c.requires.process_bound c.requires.slot_bound c.requires.target_bound c.requires.cloneable in
    let left = place_left from.words.now from.process from.slot from.target from.free c.requires.process_bound c.requires.slot_bound c.requires.target_bound c.requires.cloneable _ c.region_in-region.ensures _ c.demote.ensures _ c.hold_range.ensures in record { words_len = c.hold_range.auto.words ∙ c.demote.auto.words ∙ c.requires.words_len; process_bound = c.requires.target_bound; slot_bound = low; process_bound_2 = left }

pub overflow_add-target : goal.overflow_add-target
overflow_add-target c =
    let from = c.args in
    let a = c.requires.target_bound in
    let low = slot_low from.words.now from.process from.slot from.target from.free c.requires.process_bound c.requires.slot_bound c.requires.target_bound c.requires.cloneable in
    omega arith

pub share_entries-requires : goal.share_entries-requires
share_entries-requires c =
    let from = c.args in
    let a = c.requires.process_bound in
    let b = c.requires.slot_bound in
    let d = c.requires.target_bound in
    let low = slot_low from.words.now from.process from.slot from.target from.free c.requires.process_bound c.requires.slot_bound c.requires.target_bound c.requires.cloneable in record { words_len = c.add_region.auto.words ∙ c.hold_range.auto.words ∙ c.demote.auto.words ∙ c.requires.words_len; src_bound = omega arith; row_bound = omega arith; shareable = shares from.words.now from.process from.slot from.target from.free c.requires.process_bound c.requires.slot_bound c.requires.target_bound c.requires.cloneable _ c.region_in-region.ensures _ c.demote.ensures _ c.hold_range.ensures _ c.shared_row.ensures _ c.add_region.ensures }

pub returns : goal.returns
returns c =
    let from = c.args in
    share_is from.words.now from.process from.slot from.target from.free c.requires.process_bound c.requires.slot_bound c.requires.target_bound c.requires.cloneable _ c.region_in-region.ensures _ c.demote.ensures _ c.hold_range.ensures _ c.shared_row.ensures _ c.add_region.ensures _ c.share_entries.ensures
