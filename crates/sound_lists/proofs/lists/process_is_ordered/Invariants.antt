-- `process_is_ordered` is orderedb. The invariant: the places that are left give the same answer, and the marks are of the slots at those before.
use Rattle.model.specs.Layout.{machine}
use Rattle.sound_lists.specs.ListOrderLaws.{Seen}
use Rattle.sound_lists.proofs.lists.process_is_ordered.Given as goal

abbrev pub invariant-loop-i : goal.invariant-loop-i
invariant-loop-i l = Seen (machine l.words) l.process l.n l.marks l.i
