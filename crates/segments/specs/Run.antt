-- The calls of a lone manager as one kind of call: what each answers, by the refusals' numbers (RULES E), and the manager that it leaves.
use Rattle.std.specs.Prelude.{List, [], ◌∷◌, ℕ}
use Rattle.segment.specs.declared.Segment.{Segment}
use Rattle.segments.specs.declared.table.VirtualMemoryManager.{VirtualMemoryManager}
use Rattle.segment.specs.Form.{start_of}
use Rattle.segments.specs.Table.{held, empty}
use Rattle.segments.specs.Calls.{segment, new_call, reserve_call, mark_call, release_call, split_call, list_call}
use Rattle.segments.specs.Answers.{answered_values, reserved_values, released_values, split_values, listed_values}
use Rattle.segments.specs.PointForm.{Ran}

-- a call of a lone manager; a segment is its start and length
pub data Call : Type 0 where
  new : (start size : ℕ) → Call
  reserve : (len : ℕ) → Call
  mark : (start len : ℕ) → Call
  release : (start len : ℕ) → Call
  split : (start len at : ℕ) → Call
  list : Call

abbrev pub run : Call → VirtualMemoryManager → Ran VirtualMemoryManager
run (new start size) m = record { answer = answered_values (new_call (record { 0 = start }) size).answer; state = (new_call (record { 0 = start }) size).manager }
run (reserve len) m = record { answer = reserved_values (reserve_call m len).answer; state = (reserve_call m len).manager }
run (mark start len) m = record { answer = answered_values (mark_call m (segment start len)).answer; state = (mark_call m (segment start len)).manager }
run (release start len) m = record { answer = released_values (release_call m (segment start len)).answer; state = (release_call m (segment start len)).manager }
run (split start len at) m =
    record { answer = split_values (split_call m (segment start len) (record { 0 = at })).answer; state = (split_call m (segment start len) (record { 0 = at })).manager }
run list m = record { answer = listed_values (list_call m).answer; state = m }

-- starts and lengths
abbrev pub numbers : List Segment → List ℕ
numbers [] = []
numbers (s ∷ t) = start_of s ∷ s.len ∷ numbers t

abbrev pub table : VirtualMemoryManager → List ℕ
table m = numbers (held m)

abbrev pub nothing : VirtualMemoryManager
nothing = empty (record { 0 = 0 }) 0
