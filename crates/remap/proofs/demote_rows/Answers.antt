-- The answers for `demote_rows`.
use mathlib.Core.Path.{refl}
use native.Mathlib.Omega.{arith}
use Rattle.remap.specs.Demoted.{read_only_in}
use Rattle.remap.specs.RemappedLaws.{doing_first, doing_more, doing_all}
use Rattle.remap.proofs.demote_rows.Goals as goal

pub loop-i-init : goal.loop-i-init
loop-i-init c =
    let from = c.args in
    (omega arith, doing_first (read_only_in from.region) from.words.now from.process (omega arith) (omega arith))

pub loop-i-preserved : goal.loop-i-preserved
loop-i-preserved c =
    let from = c.args in
    (omega arith, doing_more (read_only_in from.region) from.words.now from.process (omega arith) _ _ c.loop-i.invariant.1 _ c.demote_row.auto.words (read_only_in from.region) (λ x. refl) c.demote_row.ensures)

pub returns : goal.returns
returns c =
    let from = c.args in
    doing_all (read_only_in from.region) from.words.now from.process (omega arith) _ _ _ c.loop-i.invariant.1 (omega arith) c.mapped_count-n.ensures.value
