-- The answers for `first_over`.
use mathlib.Core.Path.{refl, sym, ◌∙◌}
use native.Mathlib.Omega.{arith}
use Rattle.model.specs.Layout.{machine}
use Rattle.model.specs.Machine.{no_region}
use Rattle.model.specs.Lookup.{regions_of}
use Rattle.lookup.specs.ScanLaws.{pass_found, pass_more, pass_all}
use Rattle.lookup.specs.LookupsLaws.{slots_length, slot_at}
use Rattle.reserve.specs.InTheWay.{over_used}
use Rattle.reserve.proofs.taken.first_over.Goals as goal

pub loop-i-init : goal.loop-i-init
loop-i-init c = (omega arith, refl)

pub region_at-region-requires : goal.region_at-region-requires
region_at-region-requires c = record { words_len = c.requires.words_len; i_bound = omega arith }

pub is_over-requires : goal.is_over-requires
is_over-requires c = c.requires.len_nonzero

pub returns-then-is_over : goal.returns-then-is_over
returns-then-is_over c = let w = c.args.words.now in let p = c.args.process in pass_found (over_used c.args.start c.args.len) (regions_of (machine w) p) 64 (slots_length w p c.requires.process_bound) _ c.loop-i.invariant c.loop-i-test.true no_region _ (slot_at w p _ _ c.loop-i-test.true c.region_at-region.ensures) (sym c.is_over.ensures ∙ c.if-is_over.true)

pub loop-i-preserved : goal.loop-i-preserved
loop-i-preserved c = let w = c.args.words.now in let p = c.args.process in pass_more (over_used c.args.start c.args.len) (regions_of (machine w) p) 64 (slots_length w p c.requires.process_bound) _ c.loop-i.invariant c.loop-i-test.true no_region _ (slot_at w p _ _ c.loop-i-test.true c.region_at-region.ensures) (sym c.is_over.ensures ∙ c.if-is_over.false)

pub returns : goal.returns
returns c = let w = c.args.words.now in let p = c.args.process in pass_all (over_used c.args.start c.args.len) (regions_of (machine w) p) 64 (slots_length w p c.requires.process_bound) _ c.loop-i.invariant c.loop-i-test.false
