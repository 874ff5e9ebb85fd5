-- `lower` moves rows down. The invariant: i of them are moved. The measure is what is left.
use Prim.Native.Nat.{◌-◌}
use lib.Seq.{slice}
use Rattle.model.specs.Layout.{machine}
use Rattle.paging.specs.ProcessRows.{rows_of}
use Rattle.paging.specs.MoveLaws.{Putting}
use Rattle.paging.proofs.mappings.lower.Given as goal

abbrev pub invariant-loop-i : goal.invariant-loop-i
invariant-loop-i l = Putting l.initial.words l.process l.at (slice l.from l.to (rows_of (machine l.initial.words) l.process)) (l.to - l.from) l.i l.words
