-- `bare_count` goes through the pages. The invariant: what is counted and what is left come to the whole count.
use Rattle.model.specs.Layout.{machine}
use Rattle.clone_pages.specs.BackedPagesLaws.{Ranged}
use Rattle.clone_pages.proofs.bare_count.Given as goal

abbrev pub invariant-loop-i : goal.invariant-loop-i
invariant-loop-i l = Ranged (machine l.words) l.row l.region l.len l.i l.n
