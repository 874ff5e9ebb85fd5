-- `lists_fit` asks the tests of lists and of pairs one after the other.
use mathlib.Core.Path.{sym, ◌∙◌}
use Rattle.laws.specs.TestChainLaws.{fails, passes}
use Rattle.soundness.specs.Stages.{lists_fit}
use Rattle.soundness.proofs.lists_fit.Goals as goal

pub returns-then-not-ordered : goal.returns-then-not-ordered
unfolding lists_fit
returns-then-not-ordered c = fails _ (sym c.ordered.ensures ∙ c.if-not-ordered.true)

pub returns-then-not-paged : goal.returns-then-not-paged
unfolding lists_fit
returns-then-not-paged c = passes (sym c.ordered.ensures ∙ c.if-not-ordered.false) (fails _ (sym c.paged.ensures ∙ c.if-not-paged.true))

pub returns-then-not-disjoint : goal.returns-then-not-disjoint
unfolding lists_fit
returns-then-not-disjoint c = passes (sym c.ordered.ensures ∙ c.if-not-ordered.false) (passes (sym c.paged.ensures ∙ c.if-not-paged.false) (fails _ (sym c.disjoint.ensures ∙ c.if-not-disjoint.true)))

pub returns : goal.returns
unfolding lists_fit
returns c = passes (sym c.ordered.ensures ∙ c.if-not-ordered.false) (passes (sym c.paged.ensures ∙ c.if-not-paged.false) (passes (sym c.disjoint.ensures ∙ c.if-not-disjoint.false) c.once_a_page.ensures))
