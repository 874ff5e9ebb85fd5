-- `backings_fit` tells R2. The invariant: what the rows met so far leave.
use Rattle.model.specs.Layout.{machine}
use Rattle.sound_frames.specs.MeetsLaws.{Meets}
use Rattle.sound_frames.proofs.backings.backings_fit.Given as goal

abbrev pub invariant-loop-f : goal.invariant-loop-f
invariant-loop-f l = Meets (machine l.words).backings l.count l.f l.met
