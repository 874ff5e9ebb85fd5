-- 131 lent words as a manager: arena start, arena size, count, and 64 rows of start and length (RULES N2); and a manager as words.
use Rattle.std.specs.Prelude.{Bool, ◌&&◌, List, ◌∷◌, ℕ, eqb, length, get_or, set, drop}
use Rattle.segment.specs.declared.Segment.{Segment}
use Rattle.segments.specs.declared.table.VirtualMemoryManager.{VirtualMemoryManager}
use Rattle.segment_search.specs.SegmentWords.{table_of}
use Rattle.segments.specs.Table.{soundb}
use Rattle.segments.specs.Run.{numbers}

abbrev pub manager_of : List ℕ → VirtualMemoryManager
manager_of w = record { mem_start = record { 0 = get_or w 0 0 }; mem_size = get_or w 1 0; count = get_or w 2 0; segments = table_of (drop 3 w) 64 }

unfoldable pub words_of : VirtualMemoryManager → List ℕ
words_of m = m.mem_start.0 ∷ m.mem_size ∷ m.count ∷ numbers m.segments

-- a manager with another row at a place, and with another count
abbrev pub row_put : VirtualMemoryManager → ℕ → Segment → VirtualMemoryManager
row_put m i s = record { mem_start = m.mem_start; mem_size = m.mem_size; count = m.count; segments = set m.segments i s }

-- words of the right length whose manager keeps the table's rule (RULES S12)
unfoldable pub lent_sound : List ℕ → Bool
lent_sound w = eqb (length w) 131 && soundb (manager_of w)
