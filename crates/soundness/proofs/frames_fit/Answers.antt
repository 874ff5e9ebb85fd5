-- `frames_fit` asks the tests of backings and holders one after the other.
use mathlib.Core.Path.{sym, ◌∙◌}
use Rattle.laws.specs.TestChainLaws.{fails, passes}
use Rattle.soundness.specs.Stages.{frames_fit}
use Rattle.soundness.proofs.frames_fit.Goals as goal

pub returns-then-not-backings_fit : goal.returns-then-not-backings_fit
unfolding frames_fit
returns-then-not-backings_fit c = λ fit. fails _ (sym c.backings_fit.ensures ∙ c.if-not-backings_fit.true)

pub returns-then-not-counted : goal.returns-then-not-counted
unfolding frames_fit
returns-then-not-counted c = λ fit. passes (sym c.backings_fit.ensures ∙ c.if-not-backings_fit.false) (fails _ (sym c.counted.ensures ∙ c.if-not-counted.true))

pub returns : goal.returns
unfolding frames_fit
returns c = λ fit. passes (sym c.backings_fit.ensures ∙ c.if-not-backings_fit.false) (passes (sym c.counted.ensures ∙ c.if-not-counted.false) (c.one_page.ensures fit))
