-- `counted` tells R3, and that free rows have no holders. The invariant: the rows passed do.
use Rattle.model.specs.Layout.{machine}
use Rattle.laws.specs.Loops.{Every}
use Rattle.sound_frames.specs.TallyLaws.{held_in}
use Rattle.sound_frames.proofs.holders.counted.Given as goal

abbrev pub invariant-loop-f : goal.invariant-loop-f
invariant-loop-f l = Every (held_in (machine l.words)) (machine l.words).backings 256 l.f
