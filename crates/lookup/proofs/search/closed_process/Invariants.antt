-- `closed_process` finds the lowest process that is not open. The invariant: what is left to look at gives the same answer.
use Rattle.model.specs.Layout.{machine}
use Rattle.lookup.specs.ScanLaws.{Passed}
use Rattle.lookup.specs.LookupsLaws.{closed}
use Rattle.lookup.proofs.search.closed_process.Given as goal

abbrev pub invariant-loop-i : goal.invariant-loop-i
invariant-loop-i l = Passed closed (machine l.words).processes 8 l.i
