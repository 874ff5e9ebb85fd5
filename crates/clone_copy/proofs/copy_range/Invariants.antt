-- `copy_range` goes through the range's pages. The invariant: those below the i-th are done, the rest comes to the same.
use Rattle.clone_copy.specs.CopyRangeLaws.{RangeGoing}
use Rattle.clone_copy.proofs.copy_range.Given as goal

abbrev pub invariant-loop-i : goal.invariant-loop-i
invariant-loop-i l = RangeGoing l.initial.words l.initial.frames l.src l.row l.region l.len l.words l.frames l.i
