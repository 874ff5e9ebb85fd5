-- `segments_rise` keeps the last region's segment. The invariant: the segments that are passed rise up to it.
use Rattle.model.specs.Layout.{machine}
use Rattle.model.specs.Lookup.{regions_of}
use Rattle.sound_lists.specs.AscendingLaws.{Ascends}
use Rattle.sound_lists.proofs.apart.segments_rise.Given as goal

abbrev pub invariant-loop-i : goal.invariant-loop-i
invariant-loop-i l = Ascends (regions_of (machine l.words) l.process) l.start l.size l.i
