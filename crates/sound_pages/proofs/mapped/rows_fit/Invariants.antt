-- `rows_fit` goes from run to run. The invariant: the rows that are left give the same answer.
use Prim.Native.Nat.{◌-◌, ◌<◌}
use Rattle.model.specs.Layout.{machine}
use Rattle.sound_pages.specs.Laid.{Laid}
use Rattle.sound_pages.specs.MappedMarks.{Seen}
use Rattle.sound_pages.specs.MappedRows.{FitFrom}
use Rattle.sound_pages.proofs.mapped.rows_fit.Given as goal

abbrev pub invariant-loop-i : goal.invariant-loop-i
invariant-loop-i l = (l.near < 64) × (Laid (machine l.words) → Seen (machine l.words) l.process 512 l.marks → FitFrom (machine l.words) l.process l.i)

abbrev pub decreases-loop-i : goal.decreases-loop-i
decreases-loop-i l = l.n - l.i
