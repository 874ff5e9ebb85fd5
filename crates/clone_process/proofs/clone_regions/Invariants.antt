-- `clone_regions` goes through the list. The invariant: the regions before place i are done, the rest comes to the same.
use Rattle.clone_process.specs.CloneEachLaws.{Cloning}
use Rattle.clone_process.proofs.clone_regions.Given as goal

abbrev pub invariant-loop-i : goal.invariant-loop-i
invariant-loop-i l = Cloning l.process l.target l.initial.words l.initial.frames l.words l.frames l.i
