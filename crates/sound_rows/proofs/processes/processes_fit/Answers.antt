-- The answers for `processes_fit`.
use mathlib.Core.Path.{sym, ◌∙◌}
use Rattle.model.specs.Layout.{machine}
use Rattle.model.specs.Machine.{no_process}
use Rattle.model.specs.SoundTest.{process_fits}
use Rattle.laws.specs.LoopLaws.{every_first, every_fails, every_more, every_all}
use Rattle.lookup.specs.LookupsLaws.{processes_length}
use Rattle.sound_rows.proofs.processes.processes_fit.Goals as goal

pub loop-i-init : goal.loop-i-init
loop-i-init c = let w = c.args.words.now in every_first (process_fits (machine w)) (machine w).processes 8 (processes_length w)

pub returns-then-not-process_fits : goal.returns-then-not-process_fits
returns-then-not-process_fits c = let w = c.args.words.now in every_fails (process_fits (machine w)) (machine w).processes 8 (processes_length w) _ c.loop-i.invariant c.loop-i-test.true no_process _ c.process_at-row.ensures (sym c.process_fits.ensures ∙ c.if-not-process_fits.true)

pub loop-i-preserved : goal.loop-i-preserved
loop-i-preserved c = let w = c.args.words.now in every_more (process_fits (machine w)) (machine w).processes 8 (processes_length w) _ c.loop-i.invariant c.loop-i-test.true no_process _ c.process_at-row.ensures (sym c.process_fits.ensures ∙ c.if-not-process_fits.false)

pub returns : goal.returns
returns c = let w = c.args.words.now in every_all (process_fits (machine w)) (machine w).processes 8 (processes_length w) _ c.loop-i.invariant c.loop-i-test.false
