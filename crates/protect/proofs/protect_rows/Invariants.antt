-- `protect_rows` goes through the mapped rows. The invariant: those below row i are done.
use Prim.Native.Nat.{◌≤◌}
use Rattle.model.specs.Layout.{machine}
use Rattle.remap.specs.RemappedLaws.{Doing}
use Rattle.protect.specs.Protects.{protected_in}
use Rattle.protect.proofs.protect_rows.Given as goal

abbrev pub invariant-loop-i : goal.invariant-loop-i
invariant-loop-i l = (l.i ≤ l.n) × Doing (protected_in (machine l.initial.words) l.process l.slot l.flags.0) l.initial.words l.process l.words l.i
