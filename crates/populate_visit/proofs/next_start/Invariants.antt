-- `next_start` finds the lowest start above a page. The invariant: what is found is the lowest among the places that are seen.
use Rattle.model.specs.Layout.{machine}
use Rattle.populate_visit.specs.PageWalkLaws.{FoundFrom}
use Rattle.populate_visit.proofs.next_start.Given as goal

abbrev pub invariant-loop-i : goal.invariant-loop-i
invariant-loop-i l = FoundFrom (machine l.words) l.process l.page.0 l.i l.found
