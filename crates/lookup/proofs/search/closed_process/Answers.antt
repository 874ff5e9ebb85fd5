-- The answers for `closed_process`.
use mathlib.Core.Path.{refl}
use native.Mathlib.Omega.{arith}
use borrow.Author.Tests.{eq-eqb, ne_eqb}
use Rattle.model.specs.Layout.{machine}
use Rattle.model.specs.Machine.{no_process}
use Rattle.lookup.specs.ScanLaws.{pass_found, pass_more, pass_all}
use Rattle.lookup.specs.LookupsLaws.{closed, processes_length}
use Rattle.lookup.proofs.search.closed_process.Goals as goal

pub loop-i-init : goal.loop-i-init
loop-i-init c = (omega arith, refl)

pub returns-then-p-eq0 : goal.returns-then-p-eq0
returns-then-p-eq0 c = let w = c.args.words.now in pass_found closed (machine w).processes 8 (processes_length w) _ c.loop-i.invariant c.loop-i-test.true no_process _ c.process_at-p.ensures (eq-eqb _ 0 c.if-p-eq0.true)

pub loop-i-preserved : goal.loop-i-preserved
loop-i-preserved c = let w = c.args.words.now in pass_more closed (machine w).processes 8 (processes_length w) _ c.loop-i.invariant c.loop-i-test.true no_process _ c.process_at-p.ensures (ne_eqb _ 0 c.if-p-eq0.false)

pub returns : goal.returns
returns c = let w = c.args.words.now in pass_all closed (machine w).processes 8 (processes_length w) _ c.loop-i.invariant c.loop-i-test.false
