-- `cores_loads`: the test, then the core for each address. The invariant: the bytes so far are summed.
use Rattle.std.proofs.Common.{◌≡◌, ◌-◌, ◌≤◌}
use Rattle.bench_c.specs.Loads.{sum_of, byte_at}
use Rattle.bench_c.proofs.loads.cores_loads.Given as goal

abbrev pub invariant-loop-i : goal.invariant-loop-i
invariant-loop-i l = (l.sum ≡ sum_of (byte_at l.words l.frames l.files l.process l.addr) l.i) × (l.i ≤ l.times)

abbrev pub decreases-loop-i : goal.decreases-loop-i
decreases-loop-i l = l.times - l.i
