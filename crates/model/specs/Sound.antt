-- RULES R1 to R6, a sound machine, as propositions: one field a rule. The test of them is in SoundTest, and SoundLaws proves that it tells them.
use Rattle.std.specs.Prelude.{◌≡◌, ◌⊎◌, ◌≢◌, true, ◌&&◌, not, List, [], ◌∷◌, ◌++◌, map, ℕ, ◌+◌, ◌-◌, ◌*◌, ◌/◌, ◌^◌, ◌≤◌, ◌<◌, length, get_or, take, drop, eqb, Option, Some, None}
use Rattle.address.specs.Flags.{good_flags, read_only}
use Rattle.address.specs.Pages.{aligned}
use Rattle.model.specs.declared.Process.{Process}
use Rattle.model.specs.declared.Region.{Region}
use Rattle.model.specs.declared.Mapping.{Mapping}
use Rattle.model.specs.declared.Entry.{Entry}
use Rattle.model.specs.declared.File.{File}
use Rattle.model.specs.declared.Backed.{Backed}
use Rattle.model.specs.declared.Backed.TheVariants.{ByEntry, ByRange, Unbacked}
use Rattle.laws.specs.Lists.{part, keep, among, first, count}
use Rattle.laws.specs.Tests.{Rows, Pairs}
use Rattle.model.specs.Machine.{Machine, State, region_at, order_of, mapped_of, no_process, no_region, no_mapping, no_entry, no_backing, no_file, user_end, most_pins, process_rows, entry_rows, file_rows, frame_rows}
use Rattle.model.specs.Lookup.{regions_of, contains, segment_end, pages_for, is_used, is_shared, is_ranged}
use Rattle.model.specs.Paging.{page_start, is_writable, all_four}
use Rattle.model.specs.Backing.{backing, backing_at, free_frames}
use Rattle.model.specs.Protect.{holders_by}
use Rattle.model.specs.Create.{one}

abbrev pub Used : Region → Type 0
Used r = r.kind ≢ 0

-- ---- R1

-- two segments without a common byte
abbrev pub Apart : Region → Region → Type 0
Apart r x = (segment_end r ≤ x.start.0) ⊎ (segment_end x ≤ r.start.0)

-- RULES R1: attached and detached regions of a process have disjoint segments
abbrev pub R1 : Machine → Type 0
R1 m = Rows no_process m.processes (λ p q. Pairs no_region (regions_of m p) Used (λ r x. Used x → Apart r x))

-- ---- R2

-- the frames of a machine that are in no backing, lowest first
abbrev pub free_of : Machine → List ℕ
free_of m = free_frames m.frame_count (take m.frame_count m.backings)

-- RULES R2: a frame lies in at most one backing and is free exactly if in none
pub record R2 (m : Machine) : Type 0 where
  -- a backing ends before the next one starts, and lies in the machine's frames
  pub apart : Rows no_backing m.backings (λ f b. b.len ≢ 0 → Rows no_backing m.backings (λ g c. f < g → c.len ≢ 0 → f + b.len ≤ g))
  pub within : Rows no_backing m.backings (λ f b. b.len ≢ 0 → f + b.len ≤ m.frame_count)
  -- the pool's free frames are those in no backing
  pub free : m.pool.free ≡ length (free_of m)
  pub next : m.pool.next.0 ≡ first m.frame_count (free_of m)

-- ---- R3

-- a region's entry or range that holds a backing: the backing's first frame, the page it is held at, and 1 for a Shared region
pub record Hold : Type 0 where
  pub frame : ℕ
  pub page : ℕ
  pub shared : ℕ

abbrev pub no_hold : Hold
no_hold = record { frame = 0; page = 0; shared = 0 }

unfoldable pub entry_holds : List Entry → List Hold
entry_holds l = map (λ e. record { frame = e.frame.0; page = e.page.0; shared = 0 }) (keep (λ e. not (eqb e.owner 0)) l)

unfoldable pub range_holds : List Region → List Hold
range_holds l = map (λ r. record { frame = r.range.0; page = r.start.0 / 4096; shared = one (is_shared r) }) (keep (λ r. is_used r && is_ranged r) l)

unfoldable pub holds : Machine → List Hold
holds m = entry_holds m.entries ++ range_holds m.regions

-- the holders counted afresh
unfoldable pub holders_of : Machine → ℕ → ℕ
holders_of m f = count (λ h. eqb h.frame f) (holds m)

-- RULES R3: a backing's holder count is the number of regions' entries or ranges that hold it, at least 1
abbrev pub R3 : Machine → Type 0
R3 m = Rows no_backing m.backings (λ f b. b.len ≢ 0 → (b.holders ≡ holders_of m f) × (1 ≤ b.holders))

-- ---- R4

-- the attached regions in which an address lies
unfoldable pub homes : Machine → ℕ → ℕ → List ℕ
homes m p a = keep (λ s. contains (region_at m p s) a) (order_of m p)

-- the one element of a list that has exactly one
abbrev pub only : List ℕ → Option ℕ
only [] = None
only (s ∷ []) = Some s
only (s ∷ t ∷ l) = None

abbrev pub frame_by : Backed → Option ℕ
frame_by (ByEntry i f n) = Some f.0
frame_by (ByRange f n) = Some f.0
frame_by Unbacked = None

-- the slot of the one attached region in which a mapped page starts
abbrev pub home_of : Machine → ℕ → Mapping → Option ℕ
home_of m p x = only (homes m p (page_start x.page.0))

pub record Homed (m : Machine) (p : ℕ) (x : Mapping) : Type 0 where
  pub slot : ℕ
  pub home : home_of m p x ≡ Some slot
  pub frame : frame_by (backing m p slot x.page.0) ≡ Some x.frame.0

-- RULES R4: a mapped page starts inside exactly one attached region, and its frame is that region's backing of the page
abbrev pub R4 : Machine → Type 0
R4 m = Rows no_process m.processes (λ p q. Rows no_mapping (mapped_of m p) (λ i x. Homed m p x))

-- ---- R5

-- of a mapping's flags, its region and the holders of the page's backing
pub record Flagged (r : Region) (flags holders : ℕ) : Type 0 where
  pub private : r.kind ≢ 3 → (flags ≡ r.flags.0) ⊎ (flags ≡ read_only r.flags.0)
  pub lone : r.kind ≢ 3 → is_writable flags ≡ true → holders ≡ 1
  pub shared : r.kind ≡ 3 → flags ≡ all_four

-- RULES R5: a private mapping has its region's flags, or those without WRITABLE; it is writable only with one holder; a shared mapping has all four
abbrev pub R5 : Machine → Type 0
R5 m = Rows no_process m.processes (λ p q. Rows no_mapping (mapped_of m p) (λ i x. (slot : ℕ) → home_of m p x ≡ Some slot → Flagged (region_at m p slot) x.flags.0 (holders_by (backing m p slot x.page.0))))

-- ---- R6

-- RULES R6a: table counts and the length of the frames' bytes fit
pub record Sized (s : State) : Type 0 where
  pub processes : length s.machine.processes ≡ process_rows
  pub regions : length s.machine.regions ≡ 512
  pub order : length s.machine.order ≡ 512
  pub mapped : length s.machine.mapped ≡ 1024
  pub entries : length s.machine.entries ≡ entry_rows
  pub backings : length s.machine.backings ≡ frame_rows
  pub files : length s.machine.files ≡ file_rows
  pub frame_count : s.machine.frame_count ≤ frame_rows
  pub file_count : s.machine.file_count ≤ file_rows
  pub frames : length s.frames ≡ s.machine.frame_count * 4096

-- files are lent with their bytes; a row past the last file is free
pub record FileFits (s : State) (i : ℕ) (f : File) : Type 0 where
  pub inside : i < s.machine.file_count → (f.readable ≤ 1) × (f.offset + f.len ≤ length s.bytes)
  pub free : s.machine.file_count ≤ i → f ≡ no_file

-- RULES W7: an arena of user addresses, page-aligned at both ends; R6c: closed processes are empty
pub record ProcessFits (m : Machine) (p : ℕ) (q : Process) : Type 0 where
  pub closed : q.opened ≢ 1 → (q ≡ no_process) × Rows no_region (regions_of m p) (λ s r. r.kind ≡ 0)
  pub aligned_start : aligned q.start.0 ≡ true
  pub aligned_size : aligned q.size ≡ true
  pub user_start : q.start.0 < user_end
  pub user_last : q.start.0 + q.size ≤ user_end
  pub attached : q.attached ≤ 64
  pub mapped : q.mapped ≤ 128

-- the list of attached regions: slots in use, none twice, and 0 past the last; detached regions are pinned (RULES R6d)
pub record Ordered (m : Machine) (p : ℕ) (q : Process) : Type 0 where
  pub listed : Rows 0 (order_of m p) (λ i s. (s < 64) × Used (region_at m p s))
  pub free : Rows 0 (drop q.attached (part 64 p m.order)) (λ i s. s ≡ 0)
  pub once : Pairs 0 (order_of m p) (λ s. Unit {0}) (λ s t. s ≢ t)
  pub detached : Rows no_region (regions_of m p) (λ s r. Used r → (among s (order_of m p) ≡ true) ⊎ (1 ≤ r.pins))

-- page order (RULES R6a): rising, and free rows past the last
pub record Paged (m : Machine) (p : ℕ) (q : Process) : Type 0 where
  pub rising : Pairs no_mapping (mapped_of m p) (λ x. Unit {0}) (λ x y. x.page.0 < y.page.0)
  pub free : Rows no_mapping (drop q.mapped (part 128 p m.mapped)) (λ i x. x ≡ no_mapping)

-- RULES R6b: records keep creation's limits, file offset plus size up to 2^48; R6f, R6g: a range covers its whole region, and Shared has one
pub record Limits (m : Machine) (r : Region) : Type 0 where
  pub kind : r.kind ≤ 3
  pub aligned_start : aligned r.start.0 ≡ true
  pub some : 1 ≤ r.size
  pub user_segment : segment_end r ≤ user_end
  pub pins : r.pins ≤ most_pins
  pub flags : r.kind ≢ 3 → (good_flags r.flags.0 ≡ true) × ((r.fork ≤ 1) × (r.per_thread ≤ 1))
  pub shared : r.kind ≡ 3 → (r.flags.0 ≡ 0) × ((r.fork ≡ 0) × ((r.per_thread ≡ 0) × (r.ranged ≡ 1)))
  pub file : r.kind ≡ 2 → (r.file < m.file_count) × ((r.offset + r.size ≤ 2 ^ 48) × ((r.length ≤ r.size) × (r.ranged ≡ 0)))
  pub no_file : r.kind ≢ 2 → (r.file ≡ 0) × ((r.offset ≡ 0) × (r.length ≡ 0))
  pub ranged : r.ranged ≡ 1 → (backing_at m r.range.0).len ≡ pages_for r.size
  pub unranged : r.ranged ≢ 1 → (r.ranged ≡ 0) × (r.range.0 ≡ 0)

-- a free slot is all zeros
pub record RegionFits (m : Machine) (r : Region) : Type 0 where
  pub free : r.kind ≡ 0 → r ≡ no_region
  pub used : Used r → Limits m r

-- RULES R6e: entries start in their region; R6g: Shared has no entries; an entry's backing is one frame
pub record Entered (m : Machine) (e : Entry) : Type 0 where
  pub owner : e.owner ≤ 512
  pub used : Used (get_or m.regions (e.owner - 1) no_region)
  pub unshared : (get_or m.regions (e.owner - 1) no_region).kind ≢ 3
  pub inside : contains (get_or m.regions (e.owner - 1) no_region) (page_start e.page.0) ≡ true
  pub frame : (backing_at m e.frame.0).len ≡ 1

pub record EntryFits (m : Machine) (e : Entry) : Type 0 where
  pub free : e.owner ≡ 0 → e ≡ no_entry
  pub used : e.owner ≢ 0 → Entered m e

-- RULES R6, all of it: counts, page order and the frames' length fit; records keep creation's limits; closed processes are empty; detached regions
-- are pinned; entries start in their region, one a page; a range covers its whole region, and Shared has one and no entries; a backing's
-- holders hold it at one page, all Shared or none
pub record R6 (s : State) : Type 0 where
  pub sized : Sized s
  pub files : Rows no_file s.machine.files (FileFits s)
  pub processes : Rows no_process s.machine.processes (ProcessFits s.machine)
  pub ordered : Rows no_process s.machine.processes (Ordered s.machine)
  pub paged : Rows no_process s.machine.processes (Paged s.machine)
  pub regions : Rows no_region s.machine.regions (λ i r. RegionFits s.machine r)
  pub entries : Rows no_entry s.machine.entries (λ i e. EntryFits s.machine e)
  pub once_a_page : Pairs no_entry s.machine.entries (λ e. e.owner ≢ 0) (λ e f. e.owner ≡ f.owner → e.page.0 ≢ f.page.0)
  pub one_page : Pairs no_hold (holds s.machine) (λ h. Unit {0}) (λ h k. h.frame ≡ k.frame → (h.page ≡ k.page) × (h.shared ≡ k.shared))
  pub free_backings : Rows no_backing s.machine.backings (λ f b. b.len ≡ 0 → b.holders ≡ 0)

pub record Sound (s : State) : Type 0 where
  -- Attached and detached regions of a process have disjoint segments.
  pub r1 : R1 s.machine
  -- A frame lies in at most one backing and is free exactly if in none.
  pub r2 : R2 s.machine
  -- A backing's holder count is the number of regions' entries or ranges that hold it, at least 1.
  pub r3 : R3 s.machine
  -- A mapped page starts inside exactly one attached region, and its frame is that region's backing of the page.
  pub r4 : R4 s.machine
  -- A private mapping has its region's flags, or those without WRITABLE; it is writable only with one holder; a shared mapping has all four.
  pub r5 : R5 s.machine
  -- Counts, orders, lengths, limits: every record is one that the calls could have made.
  pub r6 : R6 s
