-- The answers for `bare_count`.
use mathlib.Core.Path.{ap, ◌∙◌}
use Prim.Native.Nat.{ℕ}
use native.Mathlib.Omega.{arith}
use Rattle.model.specs.Layout.{machine}
use Rattle.clone_pages.specs.BackedPages.{bare_one}
use Rattle.clone_pages.specs.BackedPagesLaws.{ranged_first, ranged_more, ranged_all}
use Rattle.clone_pages.proofs.bare_count.Goals as goal

pub loop-i-init : goal.loop-i-init
loop-i-init c =
    let from = c.args in
    ranged_first (machine from.words.now) from.row from.region from.len

pub loop-i-preserved : goal.loop-i-preserved
loop-i-preserved c =
    let from = c.args in
    let m = machine from.words.now in
    ranged_more m from.row from.region from.len _ _ c.loop-i.invariant c.loop-i-test.true _
    (c.one_if_bare-n.ensures.value ∙ ap (λ (k : ℕ). bare_one m from.row k) c.nth_page.ensures) c.one_if_bare-n.ensures.upper_bound

pub returns : goal.returns
returns c =
    let from = c.args in record { value = ranged_all (machine from.words.now) from.row from.region from.len _ _ c.loop-i.invariant c.loop-i-test.false; upper_bound = omega arith }
