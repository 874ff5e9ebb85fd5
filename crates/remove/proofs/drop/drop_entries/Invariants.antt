-- `drop_entries` goes through the entries. The invariant: those below row i are dropped.
use Rattle.remove.specs.DroppedLaws.{Dropping}
use Rattle.remove.proofs.drop.drop_entries.Given as goal

abbrev pub invariant-loop-i : goal.invariant-loop-i
invariant-loop-i l = Dropping l.initial.words l.row l.words l.i
