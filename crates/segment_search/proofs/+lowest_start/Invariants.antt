-- `lowest_start` is the search. The measure is the number of segments still ahead of the start: it falls at each restart.
use Rattle.segment_search.specs.Search.{ahead}
use Rattle.segment_search.specs.SegmentWords.{table_of}
use Rattle.segment_search.proofs.+lowest_start.Given as goal

abbrev pub decreases-lowest_start : goal.decreases-lowest_start
decreases-lowest_start l = ahead (table_of l.words.now l.count) l.start
