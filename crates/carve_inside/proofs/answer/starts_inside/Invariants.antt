-- `starts_inside` asks one place after the other. The invariant: those inside of the first i are put.
use mathlib.Core.Path.{◌≡◌}
use lib.ListN.{length}
use Rattle.model.specs.Layout.{machine}
use Rattle.model.specs.Machine.{order_of}
use Rattle.regions.specs.PickedLaws.{Picked}
use Rattle.carve_inside.specs.CarveAnswer.{starts_in}
use Rattle.carve_inside.proofs.answer.starts_inside.Given as goal

abbrev pub invariant-loop-i : goal.invariant-loop-i
invariant-loop-i l = Picked (starts_in (machine l.words) l.process l.start l.end) (order_of (machine l.words) l.process) l.n l.initial.out 0 l.out l.found l.i × (length l.out ≡ length l.initial.out)
