-- The answers for `regions_fit`.
use mathlib.Core.Path.{sym, ◌∙◌}
use Rattle.model.specs.Layout.{machine}
use Rattle.model.specs.Machine.{no_region}
use Rattle.model.specs.SoundTest.{region_fits}
use Rattle.laws.specs.LoopLaws.{every_first, every_fails, every_more, every_all}
use Rattle.lookup.specs.LookupsLaws.{regions_length}
use Rattle.sound_rows.proofs.slots.regions_fit.Goals as goal

pub loop-i-init : goal.loop-i-init
loop-i-init c = let w = c.args.words.now in every_first (λ i x. region_fits (machine w) x) (machine w).regions 512 (regions_length w)

pub returns-then-not-region_fits : goal.returns-then-not-region_fits
returns-then-not-region_fits c = let w = c.args.words.now in every_fails (λ i x. region_fits (machine w) x) (machine w).regions 512 (regions_length w) _ c.loop-i.invariant c.loop-i-test.true no_region _ c.region_at-row.ensures (sym c.region_fits.ensures ∙ c.if-not-region_fits.true)

pub loop-i-preserved : goal.loop-i-preserved
loop-i-preserved c = let w = c.args.words.now in every_more (λ i x. region_fits (machine w) x) (machine w).regions 512 (regions_length w) _ c.loop-i.invariant c.loop-i-test.true no_region _ c.region_at-row.ensures (sym c.region_fits.ensures ∙ c.if-not-region_fits.false)

pub returns : goal.returns
returns c = let w = c.args.words.now in every_all (λ i x. region_fits (machine w) x) (machine w).regions 512 (regions_length w) _ c.loop-i.invariant c.loop-i-test.false
