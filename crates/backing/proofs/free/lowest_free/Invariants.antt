-- `lowest_free` finds the lowest free frame. The invariant: the rest of the pass gives the same answer.
use Rattle.model.specs.Layout.{machine}
use Rattle.backing.specs.BackingSteps.{framed}
use Rattle.backing.specs.FreeSearchLaws.{LowestSought}
use Rattle.backing.proofs.free.lowest_free.Given as goal

abbrev pub invariant-loop-i : goal.invariant-loop-i
invariant-loop-i l = LowestSought l.initial.i (framed (machine l.words)) l.rows l.i l.covered
