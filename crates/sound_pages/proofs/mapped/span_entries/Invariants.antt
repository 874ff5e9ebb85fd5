-- `span_entries` keeps the first and the last entry of each process. The invariant: those of the entries before i.
use Rattle.model.specs.Layout.{machine}
use Rattle.sound_pages.specs.MappedSpans.{Spans}
use Rattle.sound_pages.specs.MappedSpansLaws.{Begun}
use Rattle.sound_pages.proofs.mapped.span_entries.Given as goal

abbrev pub invariant-loop-i : goal.invariant-loop-i
invariant-loop-i l = Spans (machine l.words) l.firsts l.pasts l.i × Begun l.firsts l.last
