-- `empty_process` is empty_process.
use mathlib.Core.Path.{sym, ◌∙◌}
use Rattle.model.specs.SoundTest.{empty_process}
use Rattle.laws.specs.TestChainLaws.{fails, passes}
use Rattle.sound_rows.proofs.processes.empty_process.Goals as goal

pub returns-then-not-is_free_process : goal.returns-then-not-is_free_process
unfolding empty_process
returns-then-not-is_free_process c = fails _ (sym c.is_free_process.ensures ∙ c.if-not-is_free_process.true)

pub returns : goal.returns
unfolding empty_process
returns c = passes (sym c.is_free_process.ensures ∙ c.if-not-is_free_process.false) c.no_region.ensures
