-- `pin_stands` looks for a pinned region. The invariant: none of the first i slots has one.
use Rattle.process.specs.PinnedLaws.{Unpinned}
use Rattle.process.proofs.close.pin_stands.Given as goal

abbrev pub invariant-loop-i : goal.invariant-loop-i
invariant-loop-i l = Unpinned l.words l.process l.i
