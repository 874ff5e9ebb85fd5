-- `tally_ranges` counts the ranges of each frame. The invariant: a count for each mark of the holders passed.
use Rattle.sound_frames.specs.Tally.{Counts}
use Rattle.sound_frames.proofs.holders.tally_ranges.Given as goal

abbrev pub invariant-loop-k : goal.invariant-loop-k
invariant-loop-k l = Counts l.words l.counts l.k
