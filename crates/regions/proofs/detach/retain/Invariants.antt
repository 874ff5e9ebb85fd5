-- `retain` goes through list order. The invariant: those kept of the first i places are put.
use Rattle.regions.specs.Detached.{other}
use Rattle.regions.specs.DetachedLaws.{Retained}
use Rattle.regions.proofs.detach.retain.Given as goal

abbrev pub invariant-loop-i : goal.invariant-loop-i
invariant-loop-i l = Retained l.initial.words l.process (other l.slot) l.n l.words l.kept l.i
