-- Cloning a region and a process: the Rust's clone_into and copy_into.
use Rattle.std.specs.Prelude.{Bool, ◌&&◌, ◌||◌, not, cond, List, [], ◌∷◌, ◌++◌, map, ℕ, ◌+◌, ◌/◌, length, eqb, ltb}
use Rattle.address.specs.Flags.{read_only}
use Rattle.answers.specs.declared.Refusal.{Refusal}
use Rattle.answers.specs.declared.Refusal.TheVariants.{SegmentReserved, OutOfMemory, TableFull}
use Rattle.model.specs.declared.Region.{Region}
use Rattle.model.specs.declared.Entry.{Entry}
use Rattle.laws.specs.Lists.{keep, each, up_from}
use Rattle.model.specs.Machine.{Machine, State, with_machine, with_frames, with_mapped, mapped_of, order_of, region_at, row_of}
use Rattle.model.specs.Answers.{Try, fine, first_of, unless, and_then}
use Rattle.model.specs.Lookup.{is_shared, is_ranged, segment_len, free_slot, free_entries, row_found, is_found}
use Rattle.model.specs.Paging.{maps_in, remap_where}
use Rattle.model.specs.Backing.{backing_at, hold, claim, add_entry, entry_for, frame_bytes, put_frame}
use Rattle.model.specs.Segments.{reserved}
use Rattle.model.specs.Create.{add_region}

-- a page of a region and the frame that backs it
pub record Held : Type 0 where
  pub page : ℕ
  pub frame : ℕ

unfoldable pub in_order : Held → List Held → List Held
in_order h [] = h ∷ []
in_order h (x ∷ l) = let rest = in_order h l in cond (ltb h.page x.page) (h ∷ x ∷ l) (x ∷ rest)

-- a region's page entries, in page order
unfoldable pub single_pages : List Entry → ℕ → List Held
single_pages [] row = []
single_pages (e ∷ l) row = let rest = single_pages l row in cond (eqb e.owner (row + 1)) (in_order (record { page = e.page.0; frame = e.frame.0 }) rest) rest

-- the pages of its range that no entry shadows, in page order
unfoldable pub range_pages : Machine → ℕ → ℕ → List Held
range_pages m p s =
    let r = region_at m p s in
    let frames : List Held = map (λ i. record { page = r.start.0 / 4096 + i; frame = r.range.0 + i }) (up_from 0 (backing_at m r.range.0).len) in
    cond (is_ranged r) (keep (λ h. not (is_found (entry_for m (row_of p s) h.page))) frames) []

-- RULES K3: CopyEager copies each backed page, range pages first
unfoldable pub backed_pages : Machine → ℕ → ℕ → List Held
backed_pages m p s = range_pages m p s ++ single_pages m.entries (row_of p s)

-- the clone copies frames: CopyEager, and not Shared
abbrev pub is_copied : Region → Bool
is_copied r = eqb r.fork 1

-- the entries that the clone needs
unfoldable pub entries_needed : Machine → ℕ → ℕ → ℕ
entries_needed m p s = cond (is_copied (region_at m p s)) (length (backed_pages m p s)) (length (single_pages m.entries (row_of p s)))

-- RULES O5: region cloning goes 9, 21, 14
unfoldable pub clone_refusals : Machine → ℕ → ℕ → ℕ → List (Bool × Refusal)
clone_refusals m p s q =
    let r = region_at m p s in
    (reserved m q r.start.0 (segment_len r), SegmentReserved)
    ∷ (not (is_found (free_slot m q)) || ltb (free_entries m) (entries_needed m p s), TableFull)
    ∷ (is_copied r && ltb m.pool.free (entries_needed m p s), OutOfMemory) ∷ []

-- RULES K1: the clone keeps address and flags; it has no pins, and a copied one no range
abbrev pub shared_row : Region → Region
shared_row r = record { kind = r.kind; start = r.start; size = r.size; flags = r.flags; fork = r.fork; per_thread = r.per_thread; pins = 0; file = r.file; offset = r.offset; length = r.length; ranged = r.ranged; range = r.range }

abbrev pub copied_row : Region → Region
copied_row r = record { kind = r.kind; start = r.start; size = r.size; flags = r.flags; fork = r.fork; per_thread = r.per_thread; pins = 0; file = r.file; offset = r.offset; length = r.length; ranged = 0; range = record { 0 = 0 } }

-- RULES K2: WRITABLE is taken off the source's mappings, those of range pages as well as of page entries (H11); a shared mapping keeps all four flags
unfoldable pub demote : Machine → ℕ → ℕ → Machine
demote m p s = let r = region_at m p s in with_mapped m p (remap_where (λ x. not (is_shared r) && maps_in r x) (λ x. read_only x.flags.0) (mapped_of m p))

-- a page entry of the clone holds the same frame
unfoldable pub share_entry : ℕ → Held → Machine → Machine
share_entry row h m = add_entry (hold m h.frame) row h.page h.frame

unfoldable pub share_range : Region → Machine → Machine
share_range r m = cond (is_ranged r) (hold m r.range.0) m

-- RULES K2: CopyOnWrite shares all backings; Shared regions share the run
unfoldable pub share_into : State → ℕ → ℕ → ℕ → State
share_into s p slot q =
    let m = s.machine in
    let row = row_of q (row_found (free_slot m q)) in
    let added = add_region (share_range (region_at m p slot) (demote m p slot)) q (shared_row (region_at m p slot)) in
    with_machine s (each (share_entry row) (single_pages m.entries (row_of p slot)) added)

-- one page copied into the lowest free frame
unfoldable pub copy_entry : ℕ → Held → State → State
copy_entry row h s =
    let new = s.machine.pool.next.0 in
    with_machine (with_frames s (put_frame s.frames new (frame_bytes s.frames h.frame))) (add_entry (claim s.machine new 1) row h.page new)

-- the Rust's copy_into
unfoldable pub copy_into : State → ℕ → ℕ → ℕ → State
copy_into s p slot q =
    let m = s.machine in
    let row = row_of q (row_found (free_slot m q)) in
    each (copy_entry row) (backed_pages m p slot) (with_machine s (add_region m q (copied_row (region_at m p slot))))

-- the Rust's MemoryRegion::clone_into: region `slot` of process p into process q
unfoldable pub core_clone_region : State → ℕ → ℕ → ℕ → Try
core_clone_region s p slot q =
    let clone = cond (is_copied (region_at s.machine p slot)) (copy_into s p slot q) (share_into s p slot q) in
    unless (first_of (clone_refusals s.machine p slot q)) s (fine clone)

unfoldable pub clone_each : List ℕ → State → ℕ → ℕ → Try
clone_each [] s p q = fine s
clone_each (slot ∷ l) s p q = and_then (core_clone_region s p slot q) (λ t. clone_each l t p q)

-- the Rust's MemoryRegions::clone_into: cloning a process skips per-thread regions (RULES K4)
unfoldable pub core_clone : State → ℕ → ℕ → Try
core_clone s p q = clone_each (keep (λ slot. eqb (region_at s.machine p slot).per_thread 0) (order_of s.machine p)) s p q
