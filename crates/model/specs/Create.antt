-- Creation: its limits, its refusals, and the new region. RULES C3 to C11.
use Rattle.std.specs.Prelude.{Bool, true, false, ◌&&◌, ◌||◌, not, cond, List, [], ◌∷◌, ◌++◌, ℕ, ◌+◌, ◌*◌, length, eqb, ltb, leb, Option, Some, None}
use Rattle.address.specs.declared.VirtAddr.{VirtAddr}
use Rattle.address.specs.Canonical.{user}
use Rattle.address.specs.Flags.{good_flags}
use Rattle.address.specs.Pages.{aligned}
use Rattle.answers.specs.declared.Refusal.{Refusal}
use Rattle.answers.specs.declared.Refusal.TheVariants.{NoProcess, BadAddress, BadRange, BadFlags, NoFile, NoSpace, SegmentReserved, OutOfMemory, TableFull}
use Rattle.model.specs.declared.Region.{Region}
use Rattle.model.specs.declared.Place.{Place}
use Rattle.model.specs.declared.ForkPolicy.{ForkPolicy}
use Rattle.model.specs.declared.ForkPolicy.TheVariants.{CopyOnWrite, CopyEager}
use Rattle.model.specs.declared.Population.{Population}
use Rattle.model.specs.declared.Population.TheVariants.{Lazy, Eager}
use Rattle.model.specs.Machine.{Machine, State, with_machine, with_frames, with_region, with_order, order_of, user_end}
use Rattle.model.specs.Lookup.{is_open, is_file, is_shared, pages_for, free_slot, row_found, is_found}
use Rattle.model.specs.Backing.{lowest_run, claim, zero_frames}
use Rattle.model.specs.Segments.{reserved, lowest_start}

-- what a caller says of fork and of frames, as the calls take it
abbrev pub is_copy : ForkPolicy → Bool
is_copy CopyOnWrite = false
is_copy CopyEager = true

abbrev pub is_eager : Population → Bool
is_eager Lazy = false
is_eager Eager = true

-- the region that a caller asks for: a row with start, pins and range still 0
abbrev pub wanted : ℕ → ℕ → ℕ → ℕ → ℕ → ℕ → ℕ → ℕ → Region
wanted kind size flags fork thread file offset length =
    record { kind = kind; start = record { 0 = 0 }; size = size; flags = record { 0 = flags }; fork = fork; per_thread = thread; pins = 0; file = file; offset = offset; length = length; ranged = 0; range = record { 0 = 0 } }

abbrev pub one : Bool → ℕ
one true = 1
one false = 0

-- RULES C6: a Private (lazy or eager), FileBacked or Shared region; C5: flags, fork policy and per-thread mark, save for Shared
abbrev pub wanted_private : ℕ → ℕ → Bool → Bool → Region
wanted_private size flags copy thread = wanted 1 size flags (one copy) (one thread) 0 0 0

abbrev pub wanted_file : ℕ → ℕ → Bool → Bool → ℕ → ℕ → ℕ → Region
wanted_file size flags copy thread file offset length = wanted 2 size flags (one copy) (one thread) file offset length

abbrev pub wanted_shared : ℕ → Region
wanted_shared size = wanted 3 size 0 0 0 0 0 0

abbrev pub round_up : ℕ → ℕ
round_up n = pages_for n * 4096

-- RULES C3: a given start is page-aligned, a user address whose segment stays below 2^47
abbrev pub bad_start : Place → Bool
bad_start (Place.At a) = not (user a.0)
bad_start Place.Lowest = false

abbrev pub bad_place : Place → ℕ → Bool
bad_place (Place.At a) size = not (aligned a.0) || ltb user_end (a.0 + round_up size)
bad_place Place.Lowest size = false

-- RULES C4: a size of 1 byte to 2^47; C8: file offset at most 2^47, file length at most the size
abbrev pub bad_size : Region → Bool
bad_size r = eqb r.size 0 || ltb user_end r.size || ltb user_end r.offset || ltb r.size r.length

-- where the segment goes (RULES C3): a given start or the lowest free one
abbrev pub spot : Machine → ℕ → Place → ℕ → Option ℕ
spot m p (Place.At a) len = cond (reserved m p a.0 len) None (Some a.0)
spot m p Place.Lowest len = lowest_start m p len

abbrev pub spot_refusal : Place → Refusal
spot_refusal (Place.At a) = SegmentReserved
spot_refusal Place.Lowest = NoSpace

-- eager and Shared regions have a run of frames
abbrev pub run_needed : Bool → Region → Bool
run_needed eager r = eager || is_shared r

-- the refusals of creation, in the order of their numbers
unfoldable pub create_refusals : Machine → ℕ → Place → Bool → Region → List (Bool × Refusal)
create_refusals m p place eager r =
    (not (is_open m p), NoProcess) ∷ (bad_start place, BadAddress) ∷ (bad_place place r.size || bad_size r, BadRange)
    ∷ (not (is_shared r) && not (good_flags r.flags.0), BadFlags) ∷ (is_file r && leb m.file_count r.file, NoFile)
    ∷ (not (is_found (spot m p place (round_up r.size))), spot_refusal place)
    ∷ (run_needed eager r && not (is_found (lowest_run m (pages_for r.size))), OutOfMemory)
    ∷ (not (is_found (free_slot m p)), TableFull) ∷ []

-- the row as it is stored: with its start, and its range if it has one
abbrev pub placed_at : Region → ℕ → Option ℕ → Region
placed_at r start None = record { kind = r.kind; start = record { 0 = start }; size = r.size; flags = r.flags; fork = r.fork; per_thread = r.per_thread; pins = 0; file = r.file; offset = r.offset; length = r.length; ranged = 0; range = record { 0 = 0 } }
placed_at r start (Some f) = record { kind = r.kind; start = record { 0 = start }; size = r.size; flags = r.flags; fork = r.fork; per_thread = r.per_thread; pins = 0; file = r.file; offset = r.offset; length = r.length; ranged = 1; range = record { 0 = f } }

-- the Rust's add_region: new regions go last in the list (RULES C11); it takes the lowest free slot
unfoldable pub add_region : Machine → ℕ → Region → Machine
add_region m p r = let s = row_found (free_slot m p) in with_order (with_region m p s r) p (order_of m p ++ (s ∷ []))

-- RULES C6, C7, a zeroed contiguous range or run: the lowest run, its frames zeroed
unfoldable pub with_run : State → Option ℕ → ℕ → State
with_run s None n = s
with_run s (Some f) n = with_machine (with_frames s (zero_frames f n s.frames)) (claim s.machine f n)

-- creation maps nothing (RULES C10)
unfoldable pub core_create : State → ℕ → Place → Bool → Region → State
core_create s p place eager r =
    let start = row_found (spot s.machine p place (round_up r.size)) in
    let run = cond (run_needed eager r) (lowest_run s.machine (pages_for r.size)) None in
    let held = with_run s run (pages_for r.size) in
    with_machine held (add_region held.machine p (placed_at r start run))

-- the start that creation answers
abbrev pub created_at : State → ℕ → Place → Region → VirtAddr
created_at s p place r = record { 0 = row_found (spot s.machine p place (round_up r.size)) }
