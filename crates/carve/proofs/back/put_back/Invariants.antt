-- `put_back` puts one slot after the other. The invariant: those up to i are back.
use Rattle.carve.specs.PutBackLaws.{PutBack}
use Rattle.carve.proofs.back.put_back.Given as goal

abbrev pub invariant-loop-i : goal.invariant-loop-i
invariant-loop-i l = PutBack l.initial.words l.out l.from l.to l.process l.words l.i
