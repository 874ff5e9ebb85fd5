-- `after_page`: a refusal ends the walk.
use Rattle.populate_visit.specs.PageWalkLaws.{page_refused, page_done}
use Rattle.populate_visit.proofs.after_page.Goals as goal

pub returns-in-Err : goal.returns-in-Err
returns-in-Err c = page_refused _ _ _ _ c.in-Err.is _ c.end.ensures

pub returns-in-Ok : goal.returns-in-Ok
returns-in-Ok c = page_done _ _ _ c.in-Ok.is
