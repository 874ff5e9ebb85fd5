-- `place` is the halving search. The invariant: the search between lo and hi finds what the whole search does. The measure is what lies between.
use Prim.Native.Nat.{◌-◌}
use Rattle.model.specs.Layout.{machine}
use Rattle.model.specs.Machine.{mapped_of}
use Rattle.paging.specs.PlaceLaws.{Searched}
use Rattle.paging.proofs.search.place.Given as goal

abbrev pub invariant-loop-lo : goal.invariant-loop-lo
invariant-loop-lo l = Searched (mapped_of (machine l.words) l.process) l.page.0 l.lo l.hi

abbrev pub decreases-loop-lo : goal.decreases-loop-lo
decreases-loop-lo l = l.hi - l.lo
