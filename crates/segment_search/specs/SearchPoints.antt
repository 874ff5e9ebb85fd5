-- The search by itself beside the edges of RULES P2 and P3: computed.
use Rattle.std.specs.Prelude.{◌≡◌, refl, List, [], ◌∷◌, ℕ, Some, None}
use Rattle.segment.specs.declared.Segment.{Segment}
use Rattle.segment_search.specs.Search.{search, tries, count, first_over}

abbrev at : ℕ → ℕ → Segment
at start len = record { start = record { 0 = start }; len = len }

-- the two segments that P1 to P5 mark in the arena from 0x10000 to 0x1ffff
abbrev marked : List Segment
marked = at 0x11000 0x1000 ∷ at 0x13000 0x2000 ∷ []

-- the byte just past the second segment is the answer, and it is passed by two restarts
pub just_past : search marked 0x1ffff 0x2000 0x10000 0 ≡ Some (0x15000, 2)
unfolding search tries count first_over
just_past = refl

-- the last start that fits, and one byte more
pub just_fits : search marked 0x1ffff 0xb000 0x10000 0 ≡ Some (0x15000, 2)
unfolding search tries count first_over
just_fits = refl

pub too_long : search marked 0x1ffff 0xb001 0x10000 0 ≡ None
unfolding search tries count first_over
too_long = refl
