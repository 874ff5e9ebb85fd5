-- `is_attached` looks for a slot in list order. The invariant: what is left to look at gives the same answer.
use Rattle.std.specs.Prelude.{eqb}
use Rattle.model.specs.Layout.{machine}
use Rattle.model.specs.Machine.{order_of}
use Rattle.lookup.specs.AttachedLaws.{Looked}
use Rattle.pins.proofs.is_attached.Given as goal

abbrev pub invariant-loop-i : goal.invariant-loop-i
invariant-loop-i l = Looked (eqb l.slot) (order_of (machine l.words) l.process) l.i
