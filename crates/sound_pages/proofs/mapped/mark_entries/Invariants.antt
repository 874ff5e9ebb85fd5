-- `mark_entries` marks by every entry of the process. The invariant: the marks are of the entries before i.
use mathlib.Core.Path.{◌≡◌}
use lib.ListN.{length}
use Rattle.model.specs.Layout.{machine}
use Rattle.sound_pages.specs.Laid.{Laid}
use Rattle.sound_pages.specs.MappedMarks.{Seen}
use Rattle.sound_pages.specs.MappedSpans.{Spanned}
use Rattle.sound_pages.proofs.mapped.mark_entries.Given as goal

abbrev pub invariant-loop-i : goal.invariant-loop-i
invariant-loop-i l = (length l.marks ≡ 128) × (Laid (machine l.words) → Spanned (machine l.words) l.process l.from l.to → Seen (machine l.words) l.process 0 l.initial.marks → Seen (machine l.words) l.process l.i l.marks)
