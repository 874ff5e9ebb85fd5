-- `put_files`. The invariant: the first i files are put. The measure is what is left.
use Rattle.process.specs.StartLaws.{FilesPut}
use Rattle.process.proofs.start.put_files.Given as goal

abbrev pub invariant-loop-i : goal.invariant-loop-i
invariant-loop-i l = FilesPut l.initial.words l.rows l.i l.words
