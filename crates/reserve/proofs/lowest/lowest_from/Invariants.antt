-- `lowest_from` is the search, over slots as they stand. The invariant: from the start on the search ends where it ends from the first one. The measure: the number of segments still ahead.
use mathlib.Core.Path.{◌≡◌}
use Rattle.segment_search.specs.Search as tries
use Rattle.segment_search.specs.Search.{ahead}
use Rattle.model.specs.Layout.{machine}
use Rattle.model.specs.Lookup.{regions_of}
use Rattle.model.specs.Segments.{segments_of, found_start}
use Rattle.reserve.specs.SlotSearchLaws.{used_in}
use Rattle.reserve.proofs.lowest.lowest_from.Given as goal

abbrev pub invariant-loop-start : goal.invariant-loop-start
invariant-loop-start l = found_start (tries.search (segments_of (machine l.words) l.process) l.last l.len l.start 0) ≡ found_start (tries.search (segments_of (machine l.words) l.process) l.last l.len l.from 0)

abbrev pub decreases-loop-start : goal.decreases-loop-start
decreases-loop-start l = ahead (used_in (regions_of (machine l.words) l.process)) l.start
