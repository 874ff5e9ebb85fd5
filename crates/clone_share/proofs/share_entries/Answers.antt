-- The answers for `share_entries`.
use mathlib.Core.Path.{refl, ◌∙◌}
use native.Mathlib.Omega.{arith}
use borrow.Author.Rules.{rules}
use Rattle.model.specs.Layout.{machine}
use Rattle.clone_share.specs.ShareNextLaws.{going_first, going_next, going_more, going_all, left_less, left_all}
use Rattle.clone_share.proofs.share_entries.Goals as goal

pub loop-i-init : goal.loop-i-init
loop-i-init c =
    let from = c.args in
    (omega arith, (refl, left_all (machine from.words.now) (machine from.words.now) from.src from.row _ _ (going_first (machine from.words.now) from.src from.row c.requires.shareable _ c.single_count-n.ensures.value c.single_count-n.ensures.upper_bound)))

pub share_next-page-requires : goal.share_next-page-requires
share_next-page-requires c =
    let from = c.args in
    let sized = c.loop-i.invariant.1.0 in
    let next = going_next (machine from.words.now) from.src from.row c.requires.shareable _ _ _ c.loop-i.invariant.1.1 (omega arith) in record { words_len = search rules; src_bound = search rules; row_bound = search rules; share_next = search rules }

pub loop-i-preserved : goal.loop-i-preserved
loop-i-preserved c =
    let from = c.args in
    (omega arith, (c.share_next-page.auto.words ∙ c.loop-i.invariant.1.0, left_less (machine from.words.now) _ from.src from.row _ _ _ (going_more (machine from.words.now) from.src from.row c.requires.shareable _ _ _ c.loop-i.invariant.1.1 (omega arith) _ c.share_next-page.ensures.result_value _ c.share_next-page.ensures.words_after)))

pub shape_of-words : goal.shape_of-words
shape_of-words c = c.loop-i.invariant.1.0

pub returns : goal.returns
returns c =
    let from = c.args in
    going_all (machine from.words.now) from.src from.row c.requires.shareable _ _ _ c.loop-i.invariant.1.1 (omega arith)
