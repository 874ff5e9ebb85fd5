-- `process_fits` is process_fits.
use mathlib.Core.Path.{sym, ◌∙◌}
use Rattle.model.specs.Layout.{machine}
use Rattle.sound_rows.specs.ProcessRowLaws.{open_process, closed_process, neither_process}
use Rattle.sound_rows.proofs.processes.process_fits.Goals as goal

pub returns-then-row-eq1 : goal.returns-then-row-eq1
returns-then-row-eq1 c = open_process (machine c.args.words.now) c.args.process c.args.row _ c.if-row-eq1.true c.arena_fits.ensures

pub returns-then-not-empty_process : goal.returns-then-not-empty_process
returns-then-not-empty_process c = neither_process (machine c.args.words.now) c.args.process c.args.row c.if-row-eq1.false (sym c.empty_process.ensures ∙ c.if-not-empty_process.true)

pub returns : goal.returns
returns c = closed_process (machine c.args.words.now) c.args.process c.args.row _ c.if-row-eq1.false (sym c.empty_process.ensures ∙ c.if-not-empty_process.false) c.arena_fits-2.ensures
