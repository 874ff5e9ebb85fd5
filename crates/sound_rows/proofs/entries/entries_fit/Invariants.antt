-- `entries_fit` tests every page entry. The invariant: what is left to test gives the same answer.
use Rattle.model.specs.Layout.{machine}
use Rattle.model.specs.SoundTest.{entry_fits}
use Rattle.laws.specs.Loops.{Every}
use Rattle.sound_rows.proofs.entries.entries_fit.Given as goal

abbrev pub invariant-loop-i : goal.invariant-loop-i
invariant-loop-i l = Every (λ i e. entry_fits (machine l.words) e) (machine l.words).entries 512 l.i
