-- `entry_for` finds the entry of a region's page. The invariant: what is left to look at gives the same answer.
use Prim.Native.Nat.{◌+◌}
use Rattle.model.specs.Layout.{machine}
use Rattle.lookup.specs.ScanLaws.{Passed}
use Rattle.lookup.specs.Lookups.{entry_of}
use Rattle.lookup.proofs.search.entry_for.Given as goal

abbrev pub invariant-loop-i : goal.invariant-loop-i
invariant-loop-i l = Passed (entry_of (l.row + 1) l.page.0) (machine l.words).entries 512 l.i
