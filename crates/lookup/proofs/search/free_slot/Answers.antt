-- The answers for `free_slot`.
use mathlib.Core.Path.{refl}
use native.Mathlib.Omega.{arith}
use borrow.Author.Tests.{eq-eqb, ne_eqb}
use Rattle.model.specs.Layout.{machine}
use Rattle.model.specs.Machine.{no_region}
use Rattle.model.specs.Lookup.{regions_of, free_slot}
use Rattle.lookup.specs.ScanLaws.{pass_found, pass_more, pass_all}
use Rattle.lookup.specs.LookupsLaws.{free_region, slots_length, slot_at}
use Rattle.lookup.proofs.search.free_slot.Goals as goal

pub loop-i-init : goal.loop-i-init
loop-i-init c = (omega arith, refl)

pub returns-then-r-eq-FREE : goal.returns-then-r-eq-FREE
unfolding free_slot
returns-then-r-eq-FREE c = let w = c.args.words.now in let p = c.args.process in pass_found free_region (regions_of (machine w) p) 64 (slots_length w p c.requires.process_bound) _ c.loop-i.invariant c.loop-i-test.true no_region _ (slot_at w p _ _ c.loop-i-test.true c.region_at-r.ensures) (eq-eqb _ 0 c.if-r-eq-FREE.true)

pub loop-i-preserved : goal.loop-i-preserved
loop-i-preserved c = let w = c.args.words.now in let p = c.args.process in pass_more free_region (regions_of (machine w) p) 64 (slots_length w p c.requires.process_bound) _ c.loop-i.invariant c.loop-i-test.true no_region _ (slot_at w p _ _ c.loop-i-test.true c.region_at-r.ensures) (ne_eqb _ 0 c.if-r-eq-FREE.false)

pub returns : goal.returns
unfolding free_slot
returns c = let w = c.args.words.now in let p = c.args.process in pass_all free_region (regions_of (machine w) p) 64 (slots_length w p c.requires.process_bound) _ c.loop-i.invariant c.loop-i-test.false
