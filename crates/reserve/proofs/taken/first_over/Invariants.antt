-- `first_over` looks through the slots. The invariant: what is left to look at gives the same answer.
use Rattle.model.specs.Layout.{machine}
use Rattle.model.specs.Lookup.{regions_of}
use Rattle.lookup.specs.ScanLaws.{Passed}
use Rattle.reserve.specs.InTheWay.{over_used}
use Rattle.reserve.proofs.taken.first_over.Given as goal

abbrev pub invariant-loop-i : goal.invariant-loop-i
invariant-loop-i l = Passed (over_used l.start l.len) (regions_of (machine l.words) l.process) 64 l.i
