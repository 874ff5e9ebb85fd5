-- `search_rows` is the search. The invariant: what is left to search gives the same answer.
use lib.ListN.{get_or}
use Rattle.segments_lent.specs.LentWords.{manager_of}
use Rattle.segments_lent.specs.OnePassLaws.{Searched}
use Rattle.segments_lent.proofs.lowest.search_rows.Given as goal

abbrev pub invariant-loop-i : goal.invariant-loop-i
invariant-loop-i l = Searched (manager_of l.words) l.len l.mem_last (get_or l.words 0 0) l.n l.probe l.i
