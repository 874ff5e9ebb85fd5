-- `clear_places` puts one 0 after the other. The invariant: the places up to i are 0.
use Rattle.regions.specs.DetachedLaws.{Cleared}
use Rattle.regions.proofs.detach.clear_places.Given as goal

abbrev pub invariant-loop-i : goal.invariant-loop-i
invariant-loop-i l = Cleared l.initial.words l.process l.from l.words l.i
