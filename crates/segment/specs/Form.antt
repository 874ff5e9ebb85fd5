-- A segment by itself: its form, its place in list order, and what it overlaps.
use Rattle.std.specs.Prelude.{Bool, not, ◌&&◌, ◌||◌, cond, true, false, ℕ, ◌+◌, ◌-◌, ◌^◌, ◌≤◌, ◌<◌, eqb, ltb, leb, ◌≡◌, ◌⊎◌, Result, Ok, Err, ⊤}
use Rattle.answers.specs.declared.Refusal.{Refusal}
use Rattle.answers.specs.declared.Refusal.TheVariants.{BadAddress, BadRange}
use Rattle.address.specs.Canonical.{canonical}
use Rattle.segment.specs.declared.Segment.{Segment}

abbrev pub start_of : Segment → ℕ
start_of s = s.start.0

-- the last byte of a non-empty segment, inclusive (the Rust's Segment::last)
abbrev pub last_of : Segment → ℕ
last_of s = start_of s + (s.len - 1)

abbrev pub emptyb : Segment → Bool
emptyb s = eqb s.len 0

-- RULES S2: an arena or non-empty segment lies in one canonical half, its last byte included, and may end at 2^64 - 1;
-- here of a start that is canonical
unfoldable pub in_half : Segment → Bool
in_half s = cond (ltb (start_of s) (2 ^ 47)) (ltb (last_of s) (2 ^ 47)) (ltb (last_of s) (2 ^ 64))

-- the test of form: BadAddress, then BadRange (RULES E3, S2); an empty one needs its start alone
unfoldable pub form_of : Segment → Result ⊤ Refusal
form_of s = cond (canonical (start_of s)) (cond (emptyb s) (Ok tt) (cond (in_half s) (Ok tt) (Err BadRange))) (Err BadAddress)

abbrev pub sameb : Segment → Segment → Bool
sameb a b = eqb (start_of a) (start_of b) && eqb a.len b.len

-- segments list by start, then length (RULES S13)
abbrev pub beforeb : Segment → Segment → Bool
beforeb a b = ltb (start_of a) (start_of b) || (eqb (start_of a) (start_of b) && ltb a.len b.len)

-- a byte from `first` to `last` is the segment's; empty segments never overlap (RULES S10; the Rust's find_overlapping_at)
abbrev pub overb : Segment → ℕ → ℕ → Bool
overb s first last = not (emptyb s) && (leb first (last_of s) && leb (start_of s) last)

-- whether an answer is no refusal
abbrev pub done : Result ⊤ Refusal → Bool
done (Ok tt) = true
done (Err r) = false

-- the same three as propositions
pub record Same (a b : Segment) : Type 0 where
  pub starts : start_of a ≡ start_of b
  pub lens : a.len ≡ b.len

abbrev pub Before : Segment → Segment → Type 0
Before a b = (start_of a < start_of b) ⊎ ((start_of a ≡ start_of b) × (a.len < b.len))

pub record Over (s : Segment) (first last : ℕ) : Type 0 where
  pub some : s.len ≡ 0 → ⊥
  pub reaches : first ≤ last_of s
  pub begins : start_of s ≤ last
