-- `covers`: what each region holds of the range is taken off what is left of it.
use Rattle.model.specs.Layout.{machine}
use Rattle.regions.specs.CoverLaws.{Left}
use Rattle.regions.proofs.cover.covers.Given as goal

abbrev pub invariant-loop-i : goal.invariant-loop-i
invariant-loop-i l = Left (machine l.words) l.process l.start l.end l.left l.i
