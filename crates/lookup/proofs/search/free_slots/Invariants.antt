-- `free_slots` counts the free slots of a process. The invariant: what is counted and what is left come to the whole count.
use Rattle.model.specs.Layout.{machine}
use Rattle.model.specs.Lookup.{regions_of}
use Rattle.laws.specs.Loops.{Counted}
use Rattle.lookup.specs.LookupsLaws.{free_region}
use Rattle.lookup.proofs.search.free_slots.Given as goal

abbrev pub invariant-loop-i : goal.invariant-loop-i
invariant-loop-i l = Counted free_region (regions_of (machine l.words) l.process) 64 l.i l.n
