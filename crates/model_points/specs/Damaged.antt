-- Machines with one word or row wrong: the soundness test refuses each. Every rule of R1 to R6 is broken by one at least.
use Rattle.std.specs.Prelude.{◌≡◌, refl, true, false, not, List, [], ◌∷◌, ℕ, ◌^◌, set}
use Rattle.model.specs.declared.Process.{Process}
use Rattle.model.specs.declared.Region.{Region}
use Rattle.model.specs.declared.Mapping.{Mapping}
use Rattle.laws.specs.Lists.{all}
use Rattle.model.specs.Machine.{Machine, State, with_machine, with_frames, with_processes, with_regions, with_entries, with_pool, with_order, with_mapped}
use Rattle.model.specs.Paging.{mapping, all_four}
use Rattle.model.specs.Create.{core_create, wanted_private, wanted_shared, wanted_file}
use Rattle.model.specs.Fault.{handle_fault}
use Rattle.model.specs.Clone.{core_clone}
use Rattle.model.specs.SoundTest.{soundb}
use Rattle.model.specs.Open.{everything}
use Rattle.model.specs.PointRows.{at, rw, ro, unstarted}
use Rattle.model.specs.RangeRows.{opened}
use Rattle.model_points.specs.EdgeRows.{two_files}

-- a sound machine: process 0 with a private region (page 1 in frame 0), a shared one (frame 1, page 8 mapped) and a file's; process 1 with the
-- clones of the first two; frame 2 free
unfoldable pub base : State
base =
    let a = core_create (opened 3 two_files (11 ∷ 12 ∷ 13 ∷ [])) 0 (at 0x1000) false (wanted_private 0x2000 rw false false) in
    let b = (handle_fault a 0 0 1 true).state in
    let c = core_create b 0 (at 0x8000) false (wanted_shared 0x1000) in
    let d = (handle_fault c 0 1 8 true).state in
    let e = (core_clone d 0 1).state in
    core_create e 0 (at 0x20000) false (wanted_file 0x1000 rw false false 0 1 0x1000)

abbrev m : Machine
m = base.machine

abbrev with : Machine → State
with n = with_machine base n

-- one row of a table changed
abbrev region_is : ℕ → Region → State
region_is i r = with (with_regions m (set m.regions i r))

abbrev entry_is : ℕ → ℕ → ℕ → ℕ → State
entry_is i owner page frame = with (with_entries m (set m.entries i (record { owner = owner; page = record { 0 = page }; frame = record { 0 = frame } })))

abbrev backing_is : ℕ → ℕ → ℕ → State
backing_is i n h = with (with_pool m (set m.backings i (record { len = n; holders = h })) m.pool)

abbrev pool_is : ℕ → ℕ → State
pool_is free next = with (with_pool m m.backings (record { free = free; next = record { 0 = next } }))

abbrev process_is : ℕ → Process → State
process_is i q = with (with_processes m (set m.processes i q))

abbrev mapped_is : List Mapping → State
mapped_is l = with (with_mapped m 0 l)

abbrev order_is : List ℕ → State
order_is l = with (with_order m 0 l)

-- a row of the file region's kind, with some fields changed
abbrev row : ℕ → ℕ → ℕ → ℕ → ℕ → ℕ → ℕ → ℕ → ℕ → ℕ → ℕ → Region
row kind start size flags fork pins file offset length ranged range =
    record { kind = kind; start = record { 0 = start }; size = size; flags = record { 0 = flags }; fork = fork; per_thread = 0; pins = pins; file = file; offset = offset; length = length; ranged = ranged; range = record { 0 = range } }

abbrev private : Mapping
private = mapping 1 0 ro

abbrev shared : Mapping
shared = mapping 8 1 all_four

unfoldable pub damaged : List State
damaged =
    -- R1: the file's region over the shared one's segment
    region_is 2 (row 2 0x8000 0x1000 rw 0 0 0 1 0x1000 0 0)
    -- R2: two backings in one frame; a backing past the last frame; a free count, a next free frame that are wrong
    ∷ backing_is 0 2 2 ∷ backing_is 2 2 1 ∷ pool_is 2 2 ∷ pool_is 1 0
    -- R3: a holder too many, one too few, a backing that nobody holds
    ∷ backing_is 0 1 3 ∷ backing_is 0 1 1 ∷ backing_is 2 1 1
    -- R4: another frame than the backing's; a page in no region
    ∷ mapped_is (mapping 1 1 ro ∷ shared ∷ []) ∷ mapped_is (private ∷ mapping 5 0 ro ∷ shared ∷ []) ∷ mapped_is (mapping 2 0 ro ∷ shared ∷ [])
    -- R5: writable with two holders; flags that are not the region's; a shared mapping without one of the four
    ∷ mapped_is (mapping 1 0 rw ∷ shared ∷ []) ∷ mapped_is (mapping 1 0 1 ∷ shared ∷ []) ∷ mapped_is (private ∷ mapping 8 1 rw ∷ [])
    -- R6: page order; the same page twice
    ∷ mapped_is (shared ∷ private ∷ []) ∷ mapped_is (private ∷ private ∷ shared ∷ [])
    -- R6: the frame bytes' length
    ∷ with_frames base []
    -- R6: the list names a free slot, a slot twice; a region that is detached and not pinned
    ∷ order_is (0 ∷ 1 ∷ 2 ∷ 3 ∷ []) ∷ order_is (0 ∷ 1 ∷ 2 ∷ 2 ∷ []) ∷ order_is (0 ∷ 1 ∷ [])
    -- R6: an arena not aligned, past 2^47; a region in a closed process
    ∷ process_is 0 (record { opened = 1; start = record { 0 = 1 }; size = 0x100000; attached = 3; mapped = 2 })
    ∷ process_is 1 (record { opened = 1; start = record { 0 = 0x1000 }; size = 2 ^ 47; attached = 2; mapped = 0 })
    ∷ region_is 128 (row 1 0x1000 0x1000 rw 0 0 0 0 0 0 0)
    -- R6, creation's limits: a free slot that is not all zeros; kind; start; size; segment; pins; flags; fork policy; file number, offset, length
    ∷ region_is 3 (row 0 0 0 0 0 0 0 0 1 0 0) ∷ region_is 2 (row 4 0x20000 0x1000 rw 0 0 0 1 0x1000 0 0) ∷ region_is 2 (row 2 0x20001 0x1000 rw 0 0 0 1 0x1000 0 0)
    ∷ region_is 2 (row 2 0x20000 0 rw 0 0 0 1 0 0 0) ∷ region_is 2 (row 2 0x20000 (2 ^ 47) rw 0 0 0 1 0x1000 0 0) ∷ region_is 2 (row 2 0x20000 0x1000 rw 0 65536 0 1 0x1000 0 0)
    ∷ region_is 2 (row 2 0x20000 0x1000 6 0 0 0 1 0x1000 0 0) ∷ region_is 2 (row 2 0x20000 0x1000 rw 2 0 0 1 0x1000 0 0) ∷ region_is 2 (row 2 0x20000 0x1000 rw 0 0 2 1 0x1000 0 0)
    ∷ region_is 2 (row 2 0x20000 0x1000 rw 0 0 0 (2 ^ 48) 0x1000 0 0) ∷ region_is 2 (row 2 0x20000 0x1000 rw 0 0 0 1 0x1001 0 0)
    -- R6: a file's fields on a private region; a Shared region without its run, one that is longer than its run
    ∷ region_is 0 (row 1 0x1000 0x2000 rw 0 0 0 1 0 0 0) ∷ region_is 1 (row 3 0x8000 0x1000 0 0 0 0 0 0 0 0) ∷ region_is 1 (row 3 0x8000 0x1001 0 0 0 0 0 0 1 1)
    -- R6: entries: outside their region; of a Shared region; of no region; a free one that is not all zeros; two at one page
    ∷ entry_is 0 1 3 0 ∷ entry_is 0 2 8 0 ∷ entry_is 0 600 1 0 ∷ entry_is 5 0 1 0 ∷ entry_is 5 1 1 0
    -- R6: holders of one backing at two pages; a free backing with holders
    ∷ entry_is 1 65 2 0 ∷ backing_is 2 0 1 ∷ []

pub base_sound : soundb base ≡ true
unfolding everything base opened unstarted
base_sound = refl

pub all_refused : all (λ s. not (soundb s)) damaged ≡ true
unfolding everything base opened unstarted damaged
all_refused = refl
