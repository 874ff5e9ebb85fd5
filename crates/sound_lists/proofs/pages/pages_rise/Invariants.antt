-- `pages_rise` compares each page with the one before it. The invariant: those that are left give the same answer.
use Rattle.model.specs.Layout.{machine}
use Rattle.model.specs.Machine.{mapped_of}
use Rattle.laws.specs.Loops.{Every}
use Rattle.sound_lists.specs.PageOrder.{follows}
use Rattle.sound_lists.proofs.pages.pages_rise.Given as goal

abbrev pub invariant-loop-i : goal.invariant-loop-i
invariant-loop-i l = Every (follows (mapped_of (machine l.words) l.process)) (mapped_of (machine l.words) l.process) l.n l.i
