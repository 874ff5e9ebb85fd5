-- `starts::put_hexes` meets its contract. The invariant: 19 bytes at most for each number so far.
use Rattle.std.proofs.Common.{◌≡◌, ◌+◌, ◌*◌, ◌≤◌, length}
use Rattle.answer_text.proofs.starts.put_hexes.Given as goal

abbrev pub invariant-loop-number : goal.invariant-loop-number
invariant-loop-number l = record {
  room : l.next ≤ l.at + 19 * l.number-index;
  kept : length l.out ≡ length l.initial.out;
}
