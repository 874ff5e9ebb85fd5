-- `region_for` finds the attached region at an address. The invariant: what is left to look at gives the same answer.
use Rattle.model.specs.Layout.{machine}
use Rattle.model.specs.Machine.{order_of}
use Rattle.lookup.specs.AttachedLaws.{holds_at, Looked}
use Rattle.lookup.proofs.attached.region_for.Given as goal

abbrev pub invariant-loop-i : goal.invariant-loop-i
invariant-loop-i l = Looked (holds_at (machine l.words) l.process l.addr.0) (order_of (machine l.words) l.process) l.i
