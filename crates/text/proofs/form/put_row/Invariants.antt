-- `form::put_row` meets its contract. The invariant: what is put ends in the room.
use Rattle.std.proofs.Common.{◌≤◌}
use Rattle.text.proofs.form.put_row.Given as goal

abbrev pub invariant-loop-byte : goal.invariant-loop-byte
invariant-loop-byte l = l.end ≤ l.limit
