-- `process_is_disjoint` compares every two only where the segments do not rise.
use mathlib.Core.Path.{sym}
use Rattle.sound_lists.proofs.apart.process_is_disjoint.Goals as goal

pub returns-then-segments_rise : goal.returns-then-segments_rise
returns-then-segments_rise c = sym (c.segments_rise.ensures c.if-segments_rise.true)
