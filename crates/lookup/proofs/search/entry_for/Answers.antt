-- The answers for `entry_for`.
use mathlib.Core.Path.{refl, sym, ◌∙◌}
use Prim.Native.Nat.{◌+◌}
use native.Mathlib.Omega.{arith}
use Rattle.model.specs.Layout.{machine}
use Rattle.model.specs.Machine.{no_entry}
use Rattle.model.specs.Backing.{entry_for}
use Rattle.lookup.specs.ScanLaws.{pass_found, pass_more, pass_all}
use Rattle.lookup.specs.Lookups.{entry_of}
use Rattle.lookup.specs.LookupsLaws.{entries_length}
use Rattle.lookup.proofs.search.entry_for.Goals as goal

pub loop-i-init : goal.loop-i-init
loop-i-init c = (omega arith, refl)

pub returns-then-is_entry_of : goal.returns-then-is_entry_of
unfolding entry_for
returns-then-is_entry_of c = let w = c.args.words.now in let f = entry_of (c.args.row + 1) c.args.page.0 in pass_found f (machine w).entries 512 (entries_length w) _ c.loop-i.invariant c.loop-i-test.true no_entry _ c.entry_at-e.ensures (sym c.is_entry_of.ensures ∙ c.if-is_entry_of.true)

pub loop-i-preserved : goal.loop-i-preserved
loop-i-preserved c = let w = c.args.words.now in let f = entry_of (c.args.row + 1) c.args.page.0 in pass_more f (machine w).entries 512 (entries_length w) _ c.loop-i.invariant c.loop-i-test.true no_entry _ c.entry_at-e.ensures (sym c.is_entry_of.ensures ∙ c.if-is_entry_of.false)

pub returns : goal.returns
unfolding entry_for
returns c = let w = c.args.words.now in let f = entry_of (c.args.row + 1) c.args.page.0 in pass_all f (machine w).entries 512 (entries_length w) _ c.loop-i.invariant c.loop-i-test.false
