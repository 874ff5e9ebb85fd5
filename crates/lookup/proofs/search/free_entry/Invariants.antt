-- `free_entry` finds the lowest free page entry. The invariant: what is left to look at gives the same answer.
use Rattle.model.specs.Layout.{machine}
use Rattle.lookup.specs.ScanLaws.{Passed}
use Rattle.lookup.specs.LookupsLaws.{unowned}
use Rattle.lookup.proofs.search.free_entry.Given as goal

abbrev pub invariant-loop-i : goal.invariant-loop-i
invariant-loop-i l = Passed unowned (machine l.words).entries 512 l.i
