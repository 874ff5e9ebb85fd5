-- `show::put_rows` meets its contract. The invariant: 38 bytes at most for each row so far.
use Rattle.std.proofs.Common.{◌≡◌, ◌+◌, ◌*◌, ◌≤◌, length}
use Rattle.script.proofs.show.put_rows.Given as goal

abbrev pub invariant-loop-i : goal.invariant-loop-i
invariant-loop-i l = (l.i ≤ l.count) × (l.next ≤ l.at + 38 * l.i) × (length l.out ≡ length l.initial.out)
