-- `cut_slots` asks one place after the other. The invariant: those cut of the first i are put.
use mathlib.Core.Path.{◌≡◌}
use lib.ListN.{length}
use Rattle.model.specs.Layout.{machine}
use Rattle.model.specs.Machine.{order_of}
use Rattle.model.specs.Carve.{partial}
use Rattle.laws.specs.Lists.{keep}
use Rattle.regions.specs.PickedLaws.{Picked}
use Rattle.carve_taken.proofs.cut_slots.Given as goal

abbrev pub invariant-loop-i : goal.invariant-loop-i
invariant-loop-i l = Picked (keep (partial (machine l.words) l.process l.start l.end)) (order_of (machine l.words) l.process) l.n l.initial.out 0 l.out l.found l.i × (length l.out ≡ length l.initial.out)
