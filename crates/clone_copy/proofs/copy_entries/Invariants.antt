-- `copy_entries` walks through the entries in page order. The invariant: those below the page are copied, the rest comes to the same.
use Prim.Native.Nat.{◌≤◌}
use Rattle.clone_copy.specs.CopyEntriesLaws.{SomeGoing}
use Rattle.clone_copy.proofs.copy_entries.Given as goal

abbrev pub invariant-loop-i : goal.invariant-loop-i
invariant-loop-i l = (l.i ≤ l.n) × SomeGoing l.initial.words l.initial.frames l.src l.row l.words l.frames l.page.0 l.n l.i
