-- The answers for `any_region_for`.
use mathlib.Core.Path.{refl, sym, ◌∙◌}
use native.Mathlib.Omega.{arith}
use Rattle.model.specs.Layout.{machine}
use Rattle.model.specs.Machine.{no_region}
use Rattle.model.specs.Lookup.{regions_of, any_region_for}
use Rattle.lookup.specs.ScanLaws.{pass_found, pass_more, pass_all}
use Rattle.lookup.specs.LookupsLaws.{slots_length, slot_at}
use Rattle.lookup.specs.Attached.{used_at}
use Rattle.lookup.proofs.attached.any_region_for.Goals as goal

pub loop-i-init : goal.loop-i-init
loop-i-init c = (omega arith, refl)

pub returns-then-is_used_at : goal.returns-then-is_used_at
unfolding any_region_for
returns-then-is_used_at c = let w = c.args.words.now in let p = c.args.process in pass_found (used_at c.args.addr.0) (regions_of (machine w) p) 64 (slots_length w p c.requires.process_bound) _ c.loop-i.invariant c.loop-i-test.true no_region _ (slot_at w p _ _ c.loop-i-test.true c.region_at-region.ensures) (sym c.is_used_at.ensures ∙ c.if-is_used_at.true)

pub loop-i-preserved : goal.loop-i-preserved
loop-i-preserved c = let w = c.args.words.now in let p = c.args.process in pass_more (used_at c.args.addr.0) (regions_of (machine w) p) 64 (slots_length w p c.requires.process_bound) _ c.loop-i.invariant c.loop-i-test.true no_region _ (slot_at w p _ _ c.loop-i-test.true c.region_at-region.ensures) (sym c.is_used_at.ensures ∙ c.if-is_used_at.false)

pub returns : goal.returns
unfolding any_region_for
returns c = let w = c.args.words.now in let p = c.args.process in pass_all (used_at c.args.addr.0) (regions_of (machine w) p) 64 (slots_length w p c.requires.process_bound) _ c.loop-i.invariant c.loop-i-test.false
