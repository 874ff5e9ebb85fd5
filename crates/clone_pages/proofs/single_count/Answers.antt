-- The answers for `single_count`.
use mathlib.Core.Path.{◌∙◌}
use Prim.Native.Nat.{◌+◌}
use native.Mathlib.Omega.{arith}
use Rattle.model.specs.Layout.{machine}
use Rattle.model.specs.Machine.{no_entry}
use Rattle.laws.specs.LoopLaws.{counted_first, counted_more, counted_all}
use Rattle.lookup.specs.LookupsLaws.{entries_length}
use Rattle.clone_pages.specs.BackedPagesLaws.{owned_by, single_length}
use Rattle.clone_pages.proofs.single_count.Goals as goal

pub loop-i-init : goal.loop-i-init
loop-i-init c =
    let from = c.args in
    counted_first (owned_by (from.row + 1)) (machine from.words.now).entries 512 (entries_length from.words.now)

pub loop-i-preserved : goal.loop-i-preserved
loop-i-preserved c =
    let from = c.args in
    counted_more (owned_by (from.row + 1)) (machine from.words.now).entries 512 (entries_length from.words.now) _ _ c.loop-i.invariant c.loop-i-test.true no_entry _ c.entry_at-e.ensures _ c.one_if_owned-n.ensures.value

pub returns : goal.returns
returns c =
    let from = c.args in record { value = counted_all (owned_by (from.row + 1)) (machine from.words.now).entries 512 (entries_length from.words.now) _ _ c.loop-i.invariant c.loop-i-test.false ∙ single_length _ _; upper_bound = omega arith }
