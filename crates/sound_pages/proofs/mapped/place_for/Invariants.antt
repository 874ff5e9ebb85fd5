-- `place_for` looks through a part of the list. The invariant: no region so far holds the address.
use Rattle.model.specs.Layout.{machine}
use Rattle.sound_pages.specs.MappedRows.{Unheld}
use Rattle.sound_pages.proofs.mapped.place_for.Given as goal

abbrev pub invariant-loop-i : goal.invariant-loop-i
invariant-loop-i l = Unheld (machine l.words) l.process l.addr.0 l.from l.i
