-- `single_count` counts a region's entries. The invariant: what is counted and what is left come to the whole count.
use Prim.Native.Nat.{◌+◌}
use Rattle.model.specs.Layout.{machine}
use Rattle.laws.specs.Loops.{Counted}
use Rattle.clone_pages.specs.BackedPagesLaws.{owned_by}
use Rattle.clone_pages.proofs.single_count.Given as goal

abbrev pub invariant-loop-i : goal.invariant-loop-i
invariant-loop-i l = Counted (owned_by (l.row + 1)) (machine l.words).entries 512 l.i l.n
