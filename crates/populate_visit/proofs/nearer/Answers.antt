-- `nearer`: one law for each case.
use Rattle.populate_visit.specs.PageWalkLaws.{lower_not, lower_first, lower_least}
use Rattle.populate_visit.proofs.nearer.Goals as goal

pub returns-then-start-page : goal.returns-then-start-page
returns-then-start-page c = lower_not _ _ _ c.if-start-page.true

pub returns-in-Some : goal.returns-in-Some
returns-in-Some c = lower_least _ _ _ c.if-start-page.false _ c.in-Some.is _ c.min.ensures

pub returns-in-None : goal.returns-in-None
returns-in-None c = lower_first _ _ _ c.if-start-page.false c.in-None.is
