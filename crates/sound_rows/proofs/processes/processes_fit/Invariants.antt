-- `processes_fit` tests every process. The invariant: what is left to test gives the same answer.
use Rattle.model.specs.Layout.{machine}
use Rattle.model.specs.SoundTest.{process_fits}
use Rattle.laws.specs.Loops.{Every}
use Rattle.sound_rows.proofs.processes.processes_fit.Given as goal

abbrev pub invariant-loop-i : goal.invariant-loop-i
invariant-loop-i l = Every (process_fits (machine l.words)) (machine l.words).processes 8 l.i
