-- `files_fit` tests every file's row. The invariant: what is left to test gives the same answer.
use Rattle.model.specs.Layout.{machine}
use Rattle.laws.specs.Loops.{Every}
use Rattle.sound_rows.specs.Sizes.{file_fits_in}
use Rattle.sound_rows.proofs.sizes.files_fit.Given as goal

abbrev pub invariant-loop-i : goal.invariant-loop-i
invariant-loop-i l = Every (file_fits_in (machine l.words).file_count l.bytes) (machine l.words).files 8 l.i
