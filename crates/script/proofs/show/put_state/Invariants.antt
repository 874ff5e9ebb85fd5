-- `show::put_state` meets its contract and ends: the lines that are left fall.
use Rattle.std.proofs.Common.{◌≡◌, ◌≤◌, length}
use Rattle.state_text.specs.Left.{left}
use Rattle.script.proofs.show.put_state.Given as goal

abbrev pub invariant-loop-next : goal.invariant-loop-next
invariant-loop-next g l = (l.output.at ≤ length l.out) × (4096 ≤ length l.out) × (length l.out ≡ length l.initial.out) × (l.output.on ≡ l.fn.output.on)

abbrev pub decreases-loop-next : goal.decreases-loop-next
decreases-loop-next g l = left l.next
