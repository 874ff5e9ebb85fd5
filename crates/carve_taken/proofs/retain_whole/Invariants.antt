-- `retain_whole` goes through list order. The invariant: those kept of the first i places are put.
use Rattle.model.specs.Layout.{machine}
use Rattle.regions.specs.DetachedLaws.{Retained}
use Rattle.carve_taken.specs.TakenOut.{whole}
use Rattle.carve_taken.proofs.retain_whole.Given as goal

abbrev pub invariant-loop-i : goal.invariant-loop-i
invariant-loop-i l = Retained l.initial.words l.process (whole (machine l.initial.words) l.process l.start l.end) l.n l.words l.kept l.i
