-- `carve_each` splits one region after the other. The invariant: those before place i are split, and the rest leave what all leave.
use Rattle.carve.specs.CarveWalkLaws.{Walked}
use Rattle.carve.proofs.walk.carve_each.Given as goal

abbrev pub invariant-loop-i : goal.invariant-loop-i
invariant-loop-i l = Walked l.initial.words l.out l.count l.process l.start l.end l.words l.i
