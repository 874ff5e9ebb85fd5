-- Looking things up: the region at an address, spans, segments, covers, free slots and entries.
use Rattle.std.specs.Prelude.{Bool, true, false, ◌&&◌, ◌||◌, not, cond, List, [], ◌∷◌, map, ℕ, zero, suc, ◌+◌, ◌*◌, ◌/◌, length, eqb, ltb, leb, Option, Some, None}
use Rattle.model.specs.declared.Region.{Region}
use Rattle.laws.specs.Lists.{part, among, count}
use Rattle.model.specs.Machine.{Machine, process_at, region_at, order_of}

-- the first of some slots that passes a test
unfoldable pub first_slot : (ℕ → Bool) → List ℕ → Option ℕ
first_slot f [] = None
first_slot f (s ∷ l) = let rest = first_slot f l in cond (f s) (Some s) rest

-- the first row that passes a test, where the list's first row is row i
unfoldable pub first_row : {A : Type 0} → (A → Bool) → List A → ℕ → Option ℕ
first_row f [] i = None
first_row f (x ∷ l) i = let rest = first_row f l (i + 1) in cond (f x) (Some i) rest

abbrev pub is_open : Machine → ℕ → Bool
is_open m p = eqb (process_at m p).opened 1

abbrev pub is_used : Region → Bool
is_used r = not (eqb r.kind 0)

abbrev pub is_private : Region → Bool
is_private r = eqb r.kind 1

abbrev pub is_file : Region → Bool
is_file r = eqb r.kind 2

abbrev pub is_shared : Region → Bool
is_shared r = eqb r.kind 3

abbrev pub is_ranged : Region → Bool
is_ranged r = eqb r.ranged 1

abbrev pub is_pinned : Region → Bool
is_pinned r = ltb 0 r.pins

-- the Rust's span, half-open, by exact size
abbrev pub span_end : Region → ℕ
span_end r = r.start.0 + r.size

-- the Rust's contains
abbrev pub contains : Region → ℕ → Bool
contains r a = leb r.start.0 a && ltb a (span_end r)

-- the Rust's overlaps: !(span.end <= range.start || span.start >= range.end)
abbrev pub overlaps : Region → ℕ → ℕ → Bool
overlaps r a e = ltb a (span_end r) && ltb r.start.0 e

-- the Rust's lies_inside
abbrev pub lies_inside : Region → ℕ → ℕ → Bool
lies_inside r a e = leb a r.start.0 && leb (span_end r) e

-- pages that hold a number of bytes; the segment is the size rounded up to pages (RULES C9)
abbrev pub pages_for : ℕ → ℕ
pages_for n = (n + 4095) / 4096

abbrev pub segment_len : Region → ℕ
segment_len r = pages_for r.size * 4096

abbrev pub segment_end : Region → ℕ
segment_end r = r.start.0 + segment_len r

-- the regions of a process, attached and detached: its 64 rows
abbrev pub regions_of : Machine → ℕ → List Region
regions_of m p = part 64 p m.regions

-- the Rust's region_for: the attached region at an address
unfoldable pub region_for : Machine → ℕ → ℕ → Option ℕ
region_for m p a = first_slot (λ s. contains (region_at m p s) a) (order_of m p)

-- unpin names a detached one too
unfoldable pub any_region_for : Machine → ℕ → ℕ → Option ℕ
any_region_for m p a = first_row (λ r. is_used r && contains r a) (regions_of m p) 0

abbrev pub is_attached : Machine → ℕ → ℕ → Bool
is_attached m p s = among s (order_of m p)

abbrev pub starts_of : Machine → ℕ → List ℕ → List ℕ
starts_of m p l = map (λ s. (region_at m p s).start.0) l

-- freed slots and entries are used again, lowest first (RULES N11)
unfoldable pub free_slot : Machine → ℕ → Option ℕ
free_slot m p = first_row (λ r. eqb r.kind 0) (regions_of m p) 0

unfoldable pub free_slots : Machine → ℕ → ℕ
free_slots m p = count (λ r. eqb r.kind 0) (regions_of m p)

unfoldable pub free_entry : Machine → Option ℕ
free_entry m = first_row (λ e. eqb e.owner 0) m.entries 0

unfoldable pub free_entries : Machine → ℕ
free_entries m = count (λ e. eqb e.owner 0) m.entries

-- the row of a search that is known to succeed
abbrev pub row_found : Option ℕ → ℕ
row_found (Some i) = i
row_found None = 0

abbrev pub is_found : Option ℕ → Bool
is_found (Some i) = true
is_found None = false

-- the Rust's covers. Yes exactly when every address from start up to end lies in an attached region (RULES V5): from an address
-- below the end go on to the end of the region there; each region is passed once, so as many steps as there are regions are enough
unfoldable pub covered_from : ℕ → Machine → ℕ → ℕ → ℕ → Bool
covered_from zero m p a e = leb e a
covered_from (suc n) m p a e = leb e a || elim (region_for m p a) [ None ↦ false | Some s ↦ covered_from n m p (span_end (region_at m p s)) e ]

unfoldable pub covered : Machine → ℕ → ℕ → ℕ → Bool
covered m p a e = covered_from (length (order_of m p)) m p a e
