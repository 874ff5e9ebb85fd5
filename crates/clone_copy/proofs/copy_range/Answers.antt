-- The answers for `copy_range`.
use mathlib.Core.Path.{◌∙◌}
use Rattle.clone_copy.specs.CopyRangeLaws.{range_first, range_can, range_more, range_all}
use Rattle.clone_copy.proofs.copy_range.Goals as goal

pub loop-i-init : goal.loop-i-init
loop-i-init c =
    let from = c.args in
    range_first from.words.now from.frames.now from.src from.row from.region from.len c.requires.range_copy

pub copy_bare-requires : goal.copy_bare-requires
copy_bare-requires c =
    let from = c.args in
    let inv = c.loop-i.invariant in record { words_len = inv.words ∙ c.requires.words_len; src_bound = c.requires.src_bound; row_bound = c.requires.row_bound; can_copy = range_can from.words.now from.frames.now from.src from.row from.region from.len c.requires.range_copy _ _ _ inv c.loop-i-test.true _ c.nth_page.ensures }

pub loop-i-preserved : goal.loop-i-preserved
loop-i-preserved c =
    let from = c.args in
    range_more from.words.now from.frames.now from.src from.row from.region from.len c.requires.range_copy _ _ _ c.loop-i.invariant
    c.loop-i-test.true _ c.nth_page.ensures _ _ c.copy_bare.auto.words c.copy_bare.auto.frames c.copy_bare.ensures.words_after c.copy_bare.ensures.frames_after

pub shape_of-words : goal.shape_of-words
shape_of-words c = c.loop-i.invariant.words

pub shape_of-frames : goal.shape_of-frames
shape_of-frames c = c.loop-i.invariant.frames

pub returns : goal.returns
returns c =
    let from = c.args in
    range_all from.words.now from.frames.now from.src from.row from.region from.len c.requires.range_copy _ _ _ c.loop-i.invariant c.loop-i-test.false
