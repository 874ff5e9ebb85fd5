-- The segment table as lent rows (RULES J8, X8): what the calls on them answer and leave, and the steps that their loops go by.
use Rattle.std.specs.Prelude.{Bool, true, false, not, ◌&&◌, cond, List, ◌++◌, ℕ, zero, suc, ◌+◌, ◌-◌, ltb, leb, eqb, length, take, drop, get_or, set, Option, Some, None}
use Rattle.segment.specs.declared.Segment.{Segment}
use Rattle.segment.specs.Form.{sameb, beforeb}
use Rattle.segments.specs.Table.{insert, removed_at, place_of, no_segment}
use Rattle.segment_records.specs.declared.by_value.Insertion.{Insertion}

-- ---- the calls

-- the by-value table's place
abbrev pub found_in : List Segment → Segment → Option ℕ
found_in t s = place_of t s 0

-- the first n rows with a segment put in; the row after them is lost, and all further ones stay
abbrev pub inserted : ℕ → Segment → List Segment → List Segment
inserted n s t = cond (ltb n (length t)) (insert s (take n t) ++ drop (suc n) t) t

abbrev pub removable : ℕ → ℕ → ℕ → Bool
removable len n k = ltb k n && leb n len

-- the first n rows without the one at k; the row after them, and all further ones, stay
abbrev pub removed : ℕ → ℕ → List Segment → List Segment
removed n k t = cond (removable (length t) n k) (removed_at k (take n t) ++ drop (n - 1) t) t

-- ---- the steps of the loops

abbrev pub turns_of : ℕ → ℕ → ℕ
turns_of len n = cond (ltb n len) (n + 1) 0

abbrev pub carrying_of : Segment → Insertion
carrying_of s = record { row = s; carry = s; placed = false }

abbrev pub stays_of : Insertion → ℕ → ℕ → Segment → Bool
stays_of c i n x = not c.placed && (not (eqb i n) && beforeb x c.carry)

abbrev pub carried_on : Insertion → ℕ → ℕ → Segment → Insertion
carried_on c i n x = cond (stays_of c i n x) (record { row = x; carry = c.carry; placed = false }) (record { row = c.carry; carry = x; placed = true })

-- k rows from row i on
unfoldable pub carry_over : ℕ → ℕ → ℕ → Insertion → List Segment → List Segment
carry_over n zero i c t = t
carry_over n (suc k) i c t = carry_over n k (i + 1) (carried_on c i n (get_or t i no_segment)) (set t i (carried_on c i n (get_or t i no_segment)).row)

abbrev pub end_of : ℕ → ℕ → ℕ → ℕ
end_of len n k = cond (removable len n k) (n - 1) k

-- k rows from row i on take the one above them
unfoldable pub move_down : ℕ → ℕ → List Segment → List Segment
move_down zero i t = t
move_down (suc k) i t = move_down k (i + 1) (set t i (get_or t (i + 1) no_segment))

abbrev pub rows_of : ℕ → ℕ → ℕ
rows_of len n = cond (ltb n len) n len

abbrev pub place_with : ℕ → ℕ → Segment → Segment → ℕ
place_with at i x s = cond (sameb x s) i at

-- the first k rows from the last on: the place that is met last is the first of equals
unfoldable pub look_down : ℕ → ℕ → Segment → List Segment → ℕ
look_down zero at s t = at
look_down (suc k) at s t = look_down k (place_with at k (get_or t k no_segment) s) s t

abbrev pub found_at : ℕ → ℕ → Option ℕ
found_at at n = cond (ltb at n) (Some at) None
