-- `insert` goes over the rows from the first on. The invariant: the turns that are left leave the same rows.
use Rattle.std.proofs.Common.{◌≡◌, ◌-◌, ◌≤◌}
use Rattle.segment_records.specs.Records.{carrying_of, carry_over}
use Rattle.segment_records.proofs.lent.insert.Given as goal

abbrev pub invariant-loop-i : goal.invariant-loop-i
invariant-loop-i l = record { inside : l.i ≤ l.n; same_rows : carry_over l.count (l.n - l.i) l.i l.c l.segments ≡ carry_over l.count l.n 0 (carrying_of l.fn.s) l.initial.segments }
