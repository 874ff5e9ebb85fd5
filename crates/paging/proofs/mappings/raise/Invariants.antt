-- `raise` moves rows up by one. The invariant: those from i on are moved. The measure is what is left.
use Rattle.paging.specs.MoveLaws.{Raised}
use Rattle.paging.proofs.mappings.raise.Given as goal

abbrev pub invariant-loop-i : goal.invariant-loop-i
invariant-loop-i l = Raised l.initial.words l.process l.from l.to l.i l.words
