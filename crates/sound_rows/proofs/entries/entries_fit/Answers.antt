-- The answers for `entries_fit`.
use mathlib.Core.Path.{sym, ◌∙◌}
use Rattle.model.specs.Layout.{machine}
use Rattle.model.specs.Machine.{no_entry}
use Rattle.model.specs.SoundTest.{entry_fits}
use Rattle.laws.specs.LoopLaws.{every_first, every_fails, every_more, every_all}
use Rattle.lookup.specs.LookupsLaws.{entries_length}
use Rattle.sound_rows.proofs.entries.entries_fit.Goals as goal

pub loop-i-init : goal.loop-i-init
loop-i-init c = let w = c.args.words.now in every_first (λ i e. entry_fits (machine w) e) (machine w).entries 512 (entries_length w)

pub returns-then-not-entry_fits : goal.returns-then-not-entry_fits
returns-then-not-entry_fits c = let w = c.args.words.now in every_fails (λ i e. entry_fits (machine w) e) (machine w).entries 512 (entries_length w) _ c.loop-i.invariant c.loop-i-test.true no_entry _ c.entry_at-row.ensures (sym c.entry_fits.ensures ∙ c.if-not-entry_fits.true)

pub loop-i-preserved : goal.loop-i-preserved
loop-i-preserved c = let w = c.args.words.now in every_more (λ i e. entry_fits (machine w) e) (machine w).entries 512 (entries_length w) _ c.loop-i.invariant c.loop-i-test.true no_entry _ c.entry_at-row.ensures (sym c.entry_fits.ensures ∙ c.if-not-entry_fits.false)

pub returns : goal.returns
returns c = let w = c.args.words.now in every_all (λ i e. entry_fits (machine w) e) (machine w).entries 512 (entries_length w) _ c.loop-i.invariant c.loop-i-test.false
