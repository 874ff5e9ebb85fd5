-- The answers for `free_slots`.
use Rattle.model.specs.Layout.{machine}
use Rattle.model.specs.Machine.{no_region}
use Rattle.model.specs.Lookup.{regions_of, free_slots}
use Rattle.laws.specs.LoopLaws.{counted_first, counted_more, counted_all}
use Rattle.lookup.specs.LookupsLaws.{free_region, slots_length, slot_at}
use Rattle.lookup.proofs.search.free_slots.Goals as goal

pub loop-i-init : goal.loop-i-init
loop-i-init c = let w = c.args.words.now in let p = c.args.process in counted_first free_region (regions_of (machine w) p) 64 (slots_length w p c.requires.process_bound)

pub loop-i-preserved : goal.loop-i-preserved
loop-i-preserved c = let w = c.args.words.now in let p = c.args.process in counted_more free_region (regions_of (machine w) p) 64 (slots_length w p c.requires.process_bound) _ _ c.loop-i.invariant c.loop-i-test.true no_region _ (slot_at w p _ _ c.loop-i-test.true c.region_at-r.ensures) _ c.one_if_zero-n.ensures.value

pub returns : goal.returns
unfolding free_slots
returns c = let w = c.args.words.now in let p = c.args.process in counted_all free_region (regions_of (machine w) p) 64 (slots_length w p c.requires.process_bound) _ _ c.loop-i.invariant c.loop-i-test.false
