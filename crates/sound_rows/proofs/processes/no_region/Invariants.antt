-- `no_region` tests every slot of a process. The invariant: what is left to test gives the same answer.
use Rattle.model.specs.Layout.{machine}
use Rattle.model.specs.Lookup.{regions_of}
use Rattle.laws.specs.Loops.{Every}
use Rattle.sound_rows.specs.ProcessRow.{no_slot}
use Rattle.sound_rows.proofs.processes.no_region.Given as goal

abbrev pub invariant-loop-i : goal.invariant-loop-i
invariant-loop-i l = Every no_slot (regions_of (machine l.words) l.process) 64 l.i
