-- The answers for `copy_entries`.
use mathlib.Core.Path.{◌∙◌}
use native.Mathlib.Omega.{arith}
use Rattle.clone_copy.specs.CopyEntriesLaws.{some_first, some_next, some_more, some_all}
use Rattle.clone_copy.proofs.copy_entries.Goals as goal

pub loop-i-init : goal.loop-i-init
loop-i-init c =
    let from = c.args in
    (omega arith, some_first from.words.now from.frames.now from.src from.row c.requires.single_copy _ c.single_count-n.ensures.value)

pub copy_next-page-requires : goal.copy_next-page-requires
copy_next-page-requires c =
    let from = c.args in
    let next = some_next from.words.now from.frames.now from.src from.row _ _ _ _ _ c.loop-i.invariant.1 c.loop-i-test.true in record { words_len = c.loop-i.invariant.1.going.words ∙ c.requires.words_len; src_bound = c.requires.src_bound; row_bound = c.requires.row_bound; copy_next = next }

pub loop-i-preserved : goal.loop-i-preserved
loop-i-preserved c =
    let from = c.args in
    (omega arith, some_more from.words.now from.frames.now from.src from.row _ _ _ _ _ c.loop-i.invariant.1 c.loop-i-test.true _ c.copy_next-page.ensures.result_value _ _ c.copy_next-page.auto.words c.copy_next-page.auto.frames c.copy_next-page.ensures.words_after c.copy_next-page.ensures.frames_after)

pub shape_of-words : goal.shape_of-words
shape_of-words c = c.loop-i.invariant.1.going.words

pub shape_of-frames : goal.shape_of-frames
shape_of-frames c = c.loop-i.invariant.1.going.frames

pub returns : goal.returns
returns c =
    let from = c.args in
    some_all from.words.now from.frames.now from.src from.row _ _ _ _ _ c.loop-i.invariant.1 c.loop-i-test.false
