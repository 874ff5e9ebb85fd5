-- `copy_into`: the region added, then its pages copied.
use mathlib.Core.Path.{◌∙◌}
use native.Mathlib.Omega.{arith}
use Rattle.clone_copy.specs.CopyIntoLaws.{slot_low, place_left, copy_ready, copy_is}
use Rattle.clone_copy.proofs.copy_into.Goals as goal

pub add_region-requires : goal.add_region-requires
add_region-requires c =
    let from = c.args in record { words_len = c.requires.words_len; process_bound = c.requires.target_bound; slot_bound = slot_low from.words.now from.frames.now from.process from.slot from.target from.free c.requires.process_bound c.requires.slot_bound c.requires.target_bound c.requires.copyable; process_bound_2 = place_left from.words.now from.frames.now from.process from.slot from.target from.free c.requires.process_bound c.requires.slot_bound c.requires.target_bound c.requires.copyable }

pub overflow_add-target : goal.overflow_add-target
overflow_add-target c =
    let from = c.args in
    let a = c.requires.target_bound in
    let low = slot_low from.words.now from.frames.now from.process from.slot from.target from.free c.requires.process_bound c.requires.slot_bound c.requires.target_bound c.requires.copyable in
    omega arith

pub copy_pages-requires : goal.copy_pages-requires
copy_pages-requires c =
    let from = c.args in
    let a = c.requires.process_bound in
    let b = c.requires.slot_bound in
    let d = c.requires.target_bound in
    let low = slot_low from.words.now from.frames.now from.process from.slot from.target from.free c.requires.process_bound c.requires.slot_bound c.requires.target_bound c.requires.copyable in record { words_len = c.add_region.auto.words ∙ c.requires.words_len; src_bound = omega arith; row_bound = omega arith; pages_copy = copy_ready from.words.now from.frames.now from.process from.slot from.target from.free c.requires.process_bound c.requires.slot_bound c.requires.target_bound c.requires.copyable _ c.region_in-region.ensures _ c.copied_row.ensures _ c.add_region.ensures }

pub returns : goal.returns
returns c =
    let from = c.args in
    copy_is from.words.now from.frames.now from.process from.slot from.target from.free c.requires.process_bound c.requires.slot_bound c.requires.target_bound c.requires.copyable _ c.region_in-region.ensures _ c.copied_row.ensures _ c.add_region.ensures _ _ c.copy_pages.ensures
