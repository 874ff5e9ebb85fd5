-- `run_fits` goes through the rows of one home. The invariant: the rows that are left give the same answer.
use mathlib.Core.Path.{◌≡◌}
use mathlib.Core.Bool.{true}
use Rattle.model.specs.Layout.{machine}
use Rattle.model.specs.Lookup.{is_attached}
use Rattle.sound_pages.specs.Laid.{Laid}
use Rattle.sound_pages.specs.MappedMarks.{Seen}
use Rattle.sound_pages.specs.MappedRows.{FitFrom}
use Rattle.sound_pages.proofs.mapped.run_fits.Given as goal

abbrev pub invariant-loop-i : goal.invariant-loop-i
invariant-loop-i l = Laid (machine l.words) → Seen (machine l.words) l.process 512 l.marks → is_attached (machine l.words) l.process l.slot ≡ true → FitFrom (machine l.words) l.process l.from → FitFrom (machine l.words) l.process l.i
