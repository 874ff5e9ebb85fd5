-- `lowest_run` finds the lowest run. The invariant: the frames from `start` up to i are free, and the rest gives the same answer.
use Rattle.model.specs.Layout.{machine}
use Rattle.backing.specs.BackingSteps.{framed}
use Rattle.backing.specs.FreeSearchLaws.{Ran}
use Rattle.backing.proofs.free.lowest_run.Given as goal

abbrev pub invariant-loop-i : goal.invariant-loop-i
invariant-loop-i l = Ran (framed (machine l.words)) l.rows l.n l.start l.i l.covered
