-- `next_entry` finds the next entry in page order. The invariant: what is found is the next among the rows that are seen.
use Prim.Native.Nat.{◌+◌}
use Rattle.model.specs.Layout.{machine}
use Rattle.lookup.specs.NextEntryLaws.{Seen}
use Rattle.lookup.proofs.backed.next_entry.Given as goal

abbrev pub invariant-loop-i : goal.invariant-loop-i
invariant-loop-i l = Seen (machine l.words).entries (l.row + 1) l.page.0 512 l.i l.found
