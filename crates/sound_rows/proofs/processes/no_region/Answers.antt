-- The answers for `no_region`.
use borrow.Author.Tests.{eq-eqb, ne_eqb}
use Rattle.model.specs.Layout.{machine}
use Rattle.model.specs.Machine.{no_region}
use Rattle.model.specs.Lookup.{regions_of}
use Rattle.laws.specs.LoopLaws.{every_first, every_fails, every_more, every_all}
use Rattle.lookup.specs.LookupsLaws.{slots_length, slot_at}
use Rattle.sound_rows.specs.ProcessRow.{no_slot}
use Rattle.sound_rows.proofs.processes.no_region.Goals as goal

pub loop-i-init : goal.loop-i-init
loop-i-init c = let w = c.args.words.now in let p = c.args.process in every_first no_slot (regions_of (machine w) p) 64 (slots_length w p c.requires.process_bound)

pub returns-then-region-ne-FREE : goal.returns-then-region-ne-FREE
returns-then-region-ne-FREE c = let w = c.args.words.now in let p = c.args.process in every_fails no_slot (regions_of (machine w) p) 64 (slots_length w p c.requires.process_bound) _ c.loop-i.invariant c.loop-i-test.true no_region _ (slot_at w p _ _ c.loop-i-test.true c.region_at-region.ensures) (ne_eqb _ 0 c.if-region-ne-FREE.true)

pub loop-i-preserved : goal.loop-i-preserved
loop-i-preserved c = let w = c.args.words.now in let p = c.args.process in every_more no_slot (regions_of (machine w) p) 64 (slots_length w p c.requires.process_bound) _ c.loop-i.invariant c.loop-i-test.true no_region _ (slot_at w p _ _ c.loop-i-test.true c.region_at-region.ensures) (eq-eqb _ 0 c.if-region-ne-FREE.false)

pub returns : goal.returns
returns c = let w = c.args.words.now in let p = c.args.process in every_all no_slot (regions_of (machine w) p) 64 (slots_length w p c.requires.process_bound) _ c.loop-i.invariant c.loop-i-test.false
