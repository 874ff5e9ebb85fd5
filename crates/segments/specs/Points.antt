-- RULES P1 to P6: one table, computed.
use Rattle.std.specs.Prelude.{◌≡◌, refl, true, List, [], ◌∷◌, ◌++◌, ℕ, ◌^◌, take}
use Rattle.address.specs.Canonical.{canonical}
use Rattle.segment.specs.Form.{form_of, in_half}
use Rattle.segments.specs.Table.{insert, soundb, walk, remove, heldb}
use Rattle.segment_search.specs.Search.{first_over, count, tries, search}
use Rattle.segments.specs.Calls.{new_call, reserve_call, mark_call, release_call, split_call, list_call, checked_by, split_point, insideb, overlapsb, lowest}
use Rattle.segments.specs.PointForm.{Step, Row, all_hold}
use Rattle.segments.specs.Run.{Call, run, numbers, table, nothing}
use Rattle.segments.specs.Run.Call.{new, reserve, mark, release, split}

abbrev pub ok : List ℕ
ok = 0 ∷ []

abbrev pub step : Call → List ℕ → Step Call
step c a = record { call = c; answer = a }

-- the manager of RULES P1 to P5, afresh for each: one call more, its answer, and the table after it
abbrev pub beside : Call → List ℕ → List ℕ → Row Call
beside c a after = record { steps = step (new 0x10000 0x10000) ok ∷ step (mark 0x11000 0x1000) ok ∷ step (mark 0x13000 0x2000) ok ∷ step c a ∷ []; after = after }

-- the manager of RULES P6
abbrev pub beside6 : Call → List ℕ → List ℕ → Row Call
beside6 c a after = record { steps = step (new 0xFFFF800000000000 (2 ^ 47)) ok ∷ step (mark 0xFFFFFFFF80000000 0x80000000) ok ∷ step c a ∷ []; after = after }

abbrev pub marked : List ℕ
marked = 0x11000 ∷ 0x1000 ∷ 0x13000 ∷ 0x2000 ∷ []

abbrev pub no_space : List ℕ
no_space = 8 ∷ 0 ∷ 0 ∷ []

abbrev pub invalid_split_point : List ℕ
invalid_split_point = 10 ∷ 0 ∷ 0 ∷ 0 ∷ 0 ∷ []

unfoldable pub points : List (Row Call)
points =
    -- P1 reserve 0x1000: 0x10000, started over 0
    beside (reserve 0x1000) (0 ∷ 0x10000 ∷ 0 ∷ []) (0x10000 ∷ 0x1000 ∷ marked)
    -- P2 0x2000: 0x15000, 2
    ∷ beside (reserve 0x2000) (0 ∷ 0x15000 ∷ 2 ∷ []) (marked ++ 0x15000 ∷ 0x2000 ∷ [])
    -- P3 0xb000: 0x15000, 2; 0xb001: NoSpace
    ∷ beside (reserve 0xb000) (0 ∷ 0x15000 ∷ 2 ∷ []) (marked ++ 0x15000 ∷ 0xb000 ∷ [])
    ∷ beside (reserve 0xb001) no_space marked
    -- P4 0 and 0x10001: NoSpace
    ∷ beside (reserve 0) no_space marked
    ∷ beside (reserve 0x10001) no_space marked
    -- P5 split the second at 0x14000: two of 0x1000; at 0x13000, 0x13800, 0x15000: InvalidSplitPoint
    ∷ beside (split 0x13000 0x2000 0x14000) (0 ∷ 0x13000 ∷ 0x1000 ∷ 0x14000 ∷ 0x1000 ∷ []) (0x11000 ∷ 0x1000 ∷ 0x13000 ∷ 0x1000 ∷ 0x14000 ∷ 0x1000 ∷ [])
    ∷ beside (split 0x13000 0x2000 0x13000) invalid_split_point marked
    ∷ beside (split 0x13000 0x2000 0x13800) invalid_split_point marked
    ∷ beside (split 0x13000 0x2000 0x15000) invalid_split_point marked
    -- P6 0x7FFF80000000 fits at the arena's start; one byte more: NoSpace
    ∷ beside6 (reserve 0x7FFF80000000) (0 ∷ 0xFFFF800000000000 ∷ 0 ∷ []) (0xFFFF800000000000 ∷ 0x7FFF80000000 ∷ 0xFFFFFFFF80000000 ∷ 0x80000000 ∷ [])
    ∷ beside6 (reserve 0x7FFF80000001) no_space (0xFFFFFFFF80000000 ∷ 0x80000000 ∷ [])
    ∷ []

pub points_hold : all_hold run table nothing points ≡ true
unfolding points new_call reserve_call mark_call release_call split_call list_call checked_by split_point insideb overlapsb lowest search tries count first_over soundb walk insert remove heldb form_of in_half canonical
points_hold = refl

-- "zeros after them": the row that a release leaves behind the last one is not listed
pub list_ends :
    numbers (take 2 (list_call (run (release 0x11000 0x1000) (run (mark 0x13000 0x2000) (run (mark 0x11000 0x1000) (run (new 0x10000 0x10000) nothing).state).state).state).state).segments)
    ≡ 0x13000 ∷ 0x2000 ∷ 0 ∷ 0 ∷ []
unfolding new_call mark_call release_call list_call checked_by overlapsb first_over soundb walk insert remove heldb form_of in_half canonical
list_ends = refl
