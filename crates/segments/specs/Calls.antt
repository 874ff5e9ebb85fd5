-- The calls of a lone manager: what each answers and the manager that it leaves.
use Rattle.std.specs.Prelude.{Bool, true, false, not, ◌&&◌, ◌||◌, cond, List, ◌++◌, ℕ, ◌-◌, eqb, ltb, leb, replicate, Option, Some, None, is_some, Result, Ok, Err, ⊤}
use Rattle.answers.specs.declared.Refusal.{Refusal}
use Rattle.answers.specs.declared.Refusal.TheVariants.{BadTable, BadAddress, NoSpace, SegmentReserved, InvalidSplitPoint, NotReserved, TableFull}
use Rattle.address.specs.declared.VirtAddr.{VirtAddr}
use Rattle.address.specs.Canonical.{canonical}
use Rattle.address.specs.Pages.{aligned}
use Rattle.segment.specs.declared.Segment.{Segment}
use Rattle.segments.specs.declared.table.VirtualMemoryManager.{VirtualMemoryManager}
use Rattle.segments.specs.declared.manager.Answered.{Answered}
use Rattle.segments.specs.declared.manager.ListAnswer.{ListAnswer}
use Rattle.segment.specs.Form.{start_of, last_of, emptyb, form_of}
use Rattle.segments.specs.Table.{held, arena, stored, soundb, insert, no_segment, empty, remove, heldb}
use Rattle.segment_search.specs.Search.{first_over, search}

abbrev pub segment : ℕ → ℕ → Segment
segment start len = record { start = record { 0 = start }; len = len }

-- ---- a new manager: the Rust's VirtualMemoryManager::new; an arena of size 0 is allowed (RULES S3)

abbrev pub new_as : Result ⊤ Refusal → VirtAddr → ℕ → Answered ⊤
new_as (Ok tt) start size = record { answer = Ok tt; manager = empty start size }
new_as (Err r) start size = record { answer = Err r; manager = empty (record { 0 = 0 }) 0 }

unfoldable pub new_call : VirtAddr → ℕ → Answered ⊤
new_call start size = new_as (form_of (record { start = start; len = size })) start size

-- ---- reserving: 0 bytes, or more than the arena, is NoSpace (RULES S4); otherwise the answer is the lowest free start (S5)

unfoldable pub lowest : VirtualMemoryManager → ℕ → Option (ℕ × ℕ)
lowest m len = cond (eqb len 0 || ltb m.mem_size len) None (search (held m) (last_of (arena m)) len (start_of (arena m)) 0)

-- NoSpace exactly if there is none (RULES S5); with 64 segments held and a start free: TableFull (S6)
abbrev pub reserve_at : VirtualMemoryManager → ℕ → Option (ℕ × ℕ) → Answered (Segment × ℕ)
reserve_at m len None = record { answer = Err NoSpace; manager = m }
reserve_at m len (Some (start, restarts)) =
    cond (leb 64 m.count) (record { answer = Err TableFull; manager = m })
    (record { answer = Ok (segment start len, restarts); manager = stored m (insert (segment start len) (held m)) })

unfoldable pub reserve_call : VirtualMemoryManager → ℕ → Answered (Segment × ℕ)
reserve_call m len = cond (soundb m) (reserve_at m len (lowest m len)) (record { answer = Err BadTable; manager = m })

-- ---- marking: the segment need not lie in the arena (RULES S9)

-- the table's rule, then the same test of form (RULES S11, S12)
unfoldable pub checked_by : VirtualMemoryManager → Segment → Result ⊤ Refusal
checked_by m s = cond (soundb m) (form_of s) (Err BadTable)

abbrev pub is_in : Option Segment → Bool
is_in f = is_some f

-- empty segments never overlap (RULES S10)
unfoldable pub overlapsb : List Segment → Segment → Bool
overlapsb t s = not (emptyb s) && is_in (first_over t (start_of s) (last_of s))

-- marking an empty one twice succeeds and stores it once (RULES S10)
abbrev pub mark_as : Result ⊤ Refusal → VirtualMemoryManager → Segment → Answered ⊤
mark_as (Err r) m s = record { answer = Err r; manager = m }
mark_as (Ok tt) m s =
    cond (overlapsb (held m) s) (record { answer = Err SegmentReserved; manager = m })
    (cond (heldb s (held m)) (record { answer = Ok tt; manager = m })
    (cond (leb 64 m.count) (record { answer = Err TableFull; manager = m })
    (record { answer = Ok tt; manager = stored m (insert s (held m)) })))

unfoldable pub mark_call : VirtualMemoryManager → Segment → Answered ⊤
mark_call m s = mark_as (checked_by m s) m s

-- ---- releasing: yes or no, after the same test of form (RULES S11)

abbrev pub release_as : Result ⊤ Refusal → VirtualMemoryManager → Segment → Answered Bool
release_as (Err r) m s = record { answer = Err r; manager = m }
release_as (Ok tt) m s =
    cond (heldb s (held m)) (record { answer = Ok true; manager = stored m (remove s (held m)) })
    (record { answer = Ok false; manager = m })

unfoldable pub release_call : VirtualMemoryManager → Segment → Answered Bool
release_call m s = release_as (checked_by m s) m s

-- ---- splitting: the Rust's VirtualMemoryManager::split; of several refusals the lowest number

-- InvalidSplitPoint: not a page strictly inside (RULES E10)
unfoldable pub insideb : Segment → VirtAddr → Bool
insideb s at = aligned at.0 && (ltb (start_of s) at.0 && ltb (at.0 - start_of s) s.len)

abbrev pub point_as : Result ⊤ Refusal → Segment → VirtAddr → Result ⊤ Refusal
point_as (Err r) s at = Err r
point_as (Ok tt) s at = cond (insideb s at) (Ok tt) (Err InvalidSplitPoint)

unfoldable pub split_point : VirtualMemoryManager → Segment → VirtAddr → Result ⊤ Refusal
split_point m s at = cond (soundb m) (cond (canonical at.0) (point_as (form_of s) s at) (Err BadAddress)) (Err BadTable)

abbrev pub low : Segment → VirtAddr → Segment
low s at = record { start = s.start; len = at.0 - start_of s }

abbrev pub high : Segment → VirtAddr → Segment
high s at = record { start = at; len = s.len - (at.0 - start_of s) }

abbrev pub split_as : Result ⊤ Refusal → VirtualMemoryManager → Segment → VirtAddr → Answered (Segment × Segment)
split_as (Err r) m s at = record { answer = Err r; manager = m }
split_as (Ok tt) m s at =
    cond (heldb s (held m))
    (cond (leb 64 m.count) (record { answer = Err TableFull; manager = m })
    (record { answer = Ok (low s at, high s at); manager = stored m (insert (high s at) (insert (low s at) (remove s (held m)))) }))
    (record { answer = Err NotReserved; manager = m })

unfoldable pub split_call : VirtualMemoryManager → Segment → VirtAddr → Answered (Segment × Segment)
split_call m s at = split_as (split_point m s at) m s at

-- ---- the list: by start, then length (RULES S13); zeros after them

unfoldable pub list_call : VirtualMemoryManager → ListAnswer
list_call m =
    cond (soundb m) (record { answer = Ok m.count; segments = held m ++ replicate (64 - m.count) no_segment })
    (record { answer = Err BadTable; segments = replicate 64 no_segment })
