-- `find_overlapping_at` finds the first row in the way. The invariant: what is left to look at gives the same answer.
use Prim.Native.Nat.{◌-◌}
use Rattle.segment_search.specs.SegmentWordsLaws.{Looked}
use Rattle.segment_search.proofs.find_overlapping_at.Given as goal

abbrev pub invariant-loop-i : goal.invariant-loop-i
invariant-loop-i l = Looked l.words l.count l.first l.last l.i
