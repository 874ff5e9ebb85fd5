-- `find` looks at the rows from the first on. The invariant: what is left to look at gives the same place.
use Rattle.segment_records.specs.RecordsLaws.{Looked}
use Rattle.segment_records.proofs.lent.find.Given as goal

abbrev pub invariant-loop-i : goal.invariant-loop-i
invariant-loop-i l = Looked l.segments l.s l.count l.i
