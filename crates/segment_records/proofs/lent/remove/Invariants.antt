-- `remove` moves the rows after a place down, one after another. The invariant: the turns that are left leave the same rows.
use Rattle.std.proofs.Common.{◌≡◌, ◌-◌, ◌≤◌}
use Rattle.segment_records.specs.Records.{move_down}
use Rattle.segment_records.proofs.lent.remove.Given as goal

abbrev pub invariant-loop-i : goal.invariant-loop-i
invariant-loop-i l = record { from : l.at ≤ l.i; same_rows : move_down (l.n - l.i) l.i l.segments ≡ move_down (l.n - l.at) l.at l.initial.segments }
