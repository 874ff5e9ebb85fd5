-- The answers for `free_entry`.
use mathlib.Core.Path.{refl}
use native.Mathlib.Omega.{arith}
use borrow.Author.Tests.{eq-eqb, ne_eqb}
use Rattle.model.specs.Layout.{machine}
use Rattle.model.specs.Machine.{no_entry}
use Rattle.model.specs.Lookup.{free_entry}
use Rattle.lookup.specs.ScanLaws.{pass_found, pass_more, pass_all}
use Rattle.lookup.specs.LookupsLaws.{unowned, entries_length}
use Rattle.lookup.proofs.search.free_entry.Goals as goal

pub loop-i-init : goal.loop-i-init
loop-i-init c = (omega arith, refl)

pub returns-then-e-eq0 : goal.returns-then-e-eq0
unfolding free_entry
returns-then-e-eq0 c = let w = c.args.words.now in pass_found unowned (machine w).entries 512 (entries_length w) _ c.loop-i.invariant c.loop-i-test.true no_entry _ c.entry_at-e.ensures (eq-eqb _ 0 c.if-e-eq0.true)

pub loop-i-preserved : goal.loop-i-preserved
loop-i-preserved c = let w = c.args.words.now in pass_more unowned (machine w).entries 512 (entries_length w) _ c.loop-i.invariant c.loop-i-test.true no_entry _ c.entry_at-e.ensures (ne_eqb _ 0 c.if-e-eq0.false)

pub returns : goal.returns
unfolding free_entry
returns c = let w = c.args.words.now in pass_all unowned (machine w).entries 512 (entries_length w) _ c.loop-i.invariant c.loop-i-test.false
