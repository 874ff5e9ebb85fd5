-- `regions_fit` tests every region slot. The invariant: what is left to test gives the same answer.
use Rattle.model.specs.Layout.{machine}
use Rattle.model.specs.SoundTest.{region_fits}
use Rattle.laws.specs.Loops.{Every}
use Rattle.sound_rows.proofs.slots.regions_fit.Given as goal

abbrev pub invariant-loop-i : goal.invariant-loop-i
invariant-loop-i l = Every (λ i x. region_fits (machine l.words) x) (machine l.words).regions 512 l.i
