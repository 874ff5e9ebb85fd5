-- `free_entries` counts the free page entries. The invariant: what is counted and what is left come to the whole count.
use Rattle.model.specs.Layout.{machine}
use Rattle.laws.specs.Loops.{Counted}
use Rattle.lookup.specs.LookupsLaws.{unowned}
use Rattle.lookup.proofs.search.free_entries.Given as goal

abbrev pub invariant-loop-i : goal.invariant-loop-i
invariant-loop-i l = Counted unowned (machine l.words).entries 512 l.i l.n
