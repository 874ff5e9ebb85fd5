-- `clear` puts free rows. The invariant: i of them are put. The measure is what is left.
use Prim.Native.Nat.{◌-◌}
use lib.ListN.{replicate}
use Rattle.model.specs.Machine.{no_mapping}
use Rattle.paging.specs.MoveLaws.{Putting}
use Rattle.paging.proofs.mappings.clear.Given as goal

abbrev pub invariant-loop-i : goal.invariant-loop-i
invariant-loop-i l = Putting l.initial.words l.process l.from (replicate (l.to - l.from) no_mapping) (l.to - l.from) l.i l.words
