-- `free_slot` finds the lowest free slot of a process. The invariant: what is left to look at gives the same answer.
use Rattle.model.specs.Layout.{machine}
use Rattle.model.specs.Lookup.{regions_of}
use Rattle.lookup.specs.ScanLaws.{Passed}
use Rattle.lookup.specs.LookupsLaws.{free_region}
use Rattle.lookup.proofs.search.free_slot.Given as goal

abbrev pub invariant-loop-i : goal.invariant-loop-i
invariant-loop-i l = Passed free_region (regions_of (machine l.words) l.process) 64 l.i
