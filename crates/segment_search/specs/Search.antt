-- The lowest free start: the search starts over just past the segment in its way (RULES S7).
use Rattle.std.specs.Prelude.{Bool, true, false, not, ◌&&◌, cond, List, [], ◌∷◌, ℕ, zero, suc, ◌+◌, ◌-◌, ltb, leb, Option, Some, None}
use Rattle.segment.specs.declared.Segment.{Segment}
use Rattle.segment.specs.Form.{start_of, last_of, emptyb, overb}

-- the first segment in the way of the bytes from `first` to `last` (the Rust's find_overlapping_at)
unfoldable pub first_over : List Segment → ℕ → ℕ → Option Segment
first_over [] first last = None
first_over (s ∷ t) first last = cond (overb s first last) (Some s) (first_over t first last)

-- how many segments there are
unfoldable pub count : (Segment → Bool) → List Segment → ℕ
count p [] = 0
count p (s ∷ t) = cond (p s) (suc (count p t)) (count p t)

-- a segment still ahead of a start: it holds a byte at or above it
abbrev pub aheadb : ℕ → Segment → Bool
aheadb start s = not (emptyb s) && leb start (last_of s)

abbrev pub ahead : List Segment → ℕ → ℕ
ahead t start = count (aheadb start) t

-- one try: past the arena's last byte there is nothing; a start with nothing in its way is free; else start over past what is in the way
abbrev pub try : (ℕ → ℕ → Option (ℕ × ℕ)) → Bool → Option Segment → ℕ → ℕ → Option (ℕ × ℕ)
try again true f start restarts = None
try again false None start restarts = Some (start, restarts)
try again false (Some s) start restarts = again (start_of s + s.len) (restarts + 1)

-- at most n tries from `start` on (the loop of the Rust's reserve_bytes)
unfoldable pub tries : ℕ → List Segment → (last len start restarts : ℕ) → Option (ℕ × ℕ)
tries zero t last len start restarts = None
tries (suc n) t last len start restarts = try (tries n t last len) (ltb last (start + (len - 1))) (first_over t start (start + (len - 1))) start restarts

-- the search: one try more than there are segments ahead is enough (Tries: tries-enough)
unfoldable pub search : List Segment → (last len start restarts : ℕ) → Option (ℕ × ℕ)
search t last len start restarts = tries (suc (ahead t start)) t last len start restarts
