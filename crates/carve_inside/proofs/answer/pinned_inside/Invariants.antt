-- `pinned_inside` asks one place after the other. The invariant: those that are left give the same answer.
use Rattle.model.specs.Layout.{machine}
use Rattle.model.specs.Machine.{order_of}
use Rattle.carve_inside.specs.PinnedInside.{pinned_in}
use Rattle.laws.specs.Loops.{Sought}
use Rattle.carve_inside.proofs.answer.pinned_inside.Given as goal

abbrev pub invariant-loop-i : goal.invariant-loop-i
invariant-loop-i l = Sought (pinned_in (machine l.words) l.process l.start l.end) (order_of (machine l.words) l.process) l.n l.i
