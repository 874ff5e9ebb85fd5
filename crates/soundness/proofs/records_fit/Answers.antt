-- `records_fit` asks the tests of counts, lengths and rows one after the other.
use mathlib.Core.Path.{sym, ◌∙◌}
use Rattle.laws.specs.TestChainLaws.{fails, passes}
use Rattle.soundness.specs.Stages.{records_fit}
use Rattle.soundness.proofs.records_fit.Goals as goal

pub returns-then-not-sized : goal.returns-then-not-sized
unfolding records_fit
returns-then-not-sized c = fails _ (sym c.sized.ensures ∙ c.if-not-sized.true)

pub returns-then-not-files_fit : goal.returns-then-not-files_fit
unfolding records_fit
returns-then-not-files_fit c = passes (sym c.sized.ensures ∙ c.if-not-sized.false) (fails _ (sym c.files_fit.ensures ∙ c.if-not-files_fit.true))

pub returns-then-not-processes_fit : goal.returns-then-not-processes_fit
unfolding records_fit
returns-then-not-processes_fit c = passes (sym c.sized.ensures ∙ c.if-not-sized.false) (passes (sym c.files_fit.ensures ∙ c.if-not-files_fit.false) (fails _ (sym c.processes_fit.ensures ∙ c.if-not-processes_fit.true)))

pub returns-then-not-regions_fit : goal.returns-then-not-regions_fit
unfolding records_fit
returns-then-not-regions_fit c = passes (sym c.sized.ensures ∙ c.if-not-sized.false) (passes (sym c.files_fit.ensures ∙ c.if-not-files_fit.false) (passes (sym c.processes_fit.ensures ∙ c.if-not-processes_fit.false) (fails _ (sym c.regions_fit.ensures ∙ c.if-not-regions_fit.true))))

pub returns : goal.returns
unfolding records_fit
returns c = passes (sym c.sized.ensures ∙ c.if-not-sized.false) (passes (sym c.files_fit.ensures ∙ c.if-not-files_fit.false) (passes (sym c.processes_fit.ensures ∙ c.if-not-processes_fit.false) (passes (sym c.regions_fit.ensures ∙ c.if-not-regions_fit.false) c.entries_fit.ensures)))
