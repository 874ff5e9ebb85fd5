-- The answers for `protect_rows`.
use native.Mathlib.Omega.{arith}
use borrow.Author.Rules.{rules}
use Rattle.model.specs.Layout.{machine}
use Rattle.remap.specs.RemappedLaws.{doing_first, doing_all}
use Rattle.protect.specs.Protects.{protected_in}
use Rattle.protect.specs.ProtectsLaws.{doing_fits, protect_more}
use Rattle.protect.proofs.protect_rows.Goals as goal

pub loop-i-init : goal.loop-i-init
loop-i-init c =
    let from = c.args in
    (omega arith, doing_first (protected_in (machine from.words.now) from.process from.slot from.flags.0) from.words.now from.process (omega arith) (omega arith))

pub protect_row-requires : goal.protect_row-requires
protect_row-requires c =
    let from = c.args in
    let sized = c.loop-i.invariant.1.sized in
    let fits = doing_fits from.words.now from.process from.slot from.flags.0 _ _ c.loop-i.invariant.1 c.requires.range_fits in record { words_len = search rules; process_bound = search rules; slot_bound = search rules; i_bound = search rules; range_fits = search rules }

pub loop-i-preserved : goal.loop-i-preserved
loop-i-preserved c =
    let from = c.args in
    (omega arith, protect_more from.words.now from.process from.slot from.flags.0 _ _ c.loop-i.invariant.1 (omega arith) _ c.protect_row.auto.words c.protect_row.ensures)

pub returns : goal.returns
returns c =
    let from = c.args in
    doing_all (protected_in (machine from.words.now) from.process from.slot from.flags.0) from.words.now from.process (omega arith) _ _ _ c.loop-i.invariant.1 (omega arith) c.mapped_count-n.ensures.value
