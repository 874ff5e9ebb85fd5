-- `put_starts` fills in one start after the other. The invariant: so many stand there, and zeros after them.
use Rattle.regions.specs.ListingLaws.{listed, Filled}
use Rattle.regions.proofs.list.put_starts.Given as goal

abbrev pub invariant-loop-i : goal.invariant-loop-i
invariant-loop-i l = Filled (listed l.words l.process) l.n l.starts l.i
