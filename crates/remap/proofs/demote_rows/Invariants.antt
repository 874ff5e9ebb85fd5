-- `demote_rows` goes through the mapped rows. The invariant: those below row i are done.
use Prim.Native.Nat.{◌≤◌}
use Rattle.remap.specs.Demoted.{read_only_in}
use Rattle.remap.specs.RemappedLaws.{Doing}
use Rattle.remap.proofs.demote_rows.Given as goal

abbrev pub invariant-loop-i : goal.invariant-loop-i
invariant-loop-i l = (l.i ≤ l.n) × Doing (read_only_in l.region) l.initial.words l.process l.words l.i
