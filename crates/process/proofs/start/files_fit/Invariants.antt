-- `files_fit`. The invariant: the files before i fit. The measure is what is left.
use Rattle.rows.specs.FileRow.{is_lent}
use Rattle.laws.specs.Loops.{Every}
use Rattle.process.specs.Start.{files_of}
use Rattle.process.proofs.start.files_fit.Given as goal

abbrev pub invariant-loop-i : goal.invariant-loop-i
invariant-loop-i l = Every (λ j f. is_lent l.bytes f) (files_of l.rows) l.n l.i
