-- The machine as typed tables, and the state that every call takes and leaves. RULES N.
use Rattle.std.specs.Prelude.{List, ℕ, ◌+◌, ◌*◌, ◌^◌, length, get_or, set, take, replicate}
use Rattle.model.specs.declared.Process.{Process}
use Rattle.model.specs.declared.Region.{Region}
use Rattle.model.specs.declared.Mapping.{Mapping}
use Rattle.model.specs.declared.Entry.{Entry}
use Rattle.model.specs.declared.Backing.{Backing}
use Rattle.model.specs.declared.Pool.{Pool}
use Rattle.model.specs.declared.File.{File}
use Rattle.laws.specs.Lists.{part, put_part, pad}

-- RULES N3 to N8: 8 processes with 64 region slots and 128 mapped pages each, 512 page entries in all, up to 8 files,
-- 0 to 256 frames: rows of the tables
abbrev pub process_rows : ℕ
process_rows = 8

abbrev pub slots : ℕ
slots = 64

abbrev pub pages : ℕ
pages = 128

abbrev pub entry_rows : ℕ
entry_rows = 512

abbrev pub file_rows : ℕ
file_rows = 8

abbrev pub frame_rows : ℕ
frame_rows = 256

-- a pin count is at most 65,535 (RULES N9)
abbrev pub most_pins : ℕ
most_pins = 65535

-- user addresses are below 2^47 (RULES N10)
abbrev pub user_end : ℕ
user_end = 2 ^ 47

-- regions and order hold 64 rows for each process, mapped 128; row f of backings is the backing that starts at frame f
pub record Machine : Type 0 where
  pub processes : List Process
  pub regions : List Region
  pub order : List ℕ
  pub mapped : List Mapping
  pub entries : List Entry
  pub backings : List Backing
  pub pool : Pool
  pub files : List File
  pub frame_count : ℕ
  pub file_count : ℕ

-- the lent memory: the machine, the frames' bytes, the files' bytes
pub record State : Type 0 where
  pub machine : Machine
  pub frames : List ℕ
  pub bytes : List ℕ

-- a free row is all zeros
abbrev pub no_process : Process
no_process = record { opened = 0; start = record { 0 = 0 }; size = 0; attached = 0; mapped = 0 }

abbrev pub no_region : Region
no_region = record { kind = 0; start = record { 0 = 0 }; size = 0; flags = record { 0 = 0 }; fork = 0; per_thread = 0; pins = 0; file = 0; offset = 0; length = 0; ranged = 0; range = record { 0 = 0 } }

abbrev pub no_mapping : Mapping
no_mapping = record { page = record { 0 = 0 }; frame = record { 0 = 0 }; flags = record { 0 = 0 } }

abbrev pub no_entry : Entry
no_entry = record { owner = 0; page = record { 0 = 0 }; frame = record { 0 = 0 } }

abbrev pub no_backing : Backing
no_backing = record { len = 0; holders = 0 }

abbrev pub no_file : File
no_file = record { readable = 0; offset = 0; len = 0 }

-- one table changed
abbrev pub with_processes : Machine → List Process → Machine
with_processes m t = record { processes = t; regions = m.regions; order = m.order; mapped = m.mapped; entries = m.entries; backings = m.backings; pool = m.pool; files = m.files; frame_count = m.frame_count; file_count = m.file_count }

abbrev pub with_regions : Machine → List Region → Machine
with_regions m t = record { processes = m.processes; regions = t; order = m.order; mapped = m.mapped; entries = m.entries; backings = m.backings; pool = m.pool; files = m.files; frame_count = m.frame_count; file_count = m.file_count }

abbrev pub with_entries : Machine → List Entry → Machine
with_entries m t = record { processes = m.processes; regions = m.regions; order = m.order; mapped = m.mapped; entries = t; backings = m.backings; pool = m.pool; files = m.files; frame_count = m.frame_count; file_count = m.file_count }

-- backings and the pool that goes with them (Backing: with_backings)
abbrev pub with_pool : Machine → List Backing → Pool → Machine
with_pool m t q = record { processes = m.processes; regions = m.regions; order = m.order; mapped = m.mapped; entries = m.entries; backings = t; pool = q; files = m.files; frame_count = m.frame_count; file_count = m.file_count }

abbrev pub with_machine : State → Machine → State
with_machine s m = record { machine = m; frames = s.frames; bytes = s.bytes }

abbrev pub with_frames : State → List ℕ → State
with_frames s f = record { machine = s.machine; frames = f; bytes = s.bytes }

abbrev pub process_at : Machine → ℕ → Process
process_at m p = get_or m.processes p no_process

-- a process's slot s is row p * 64 + s of the regions
abbrev pub row_of : ℕ → ℕ → ℕ
row_of p s = p * 64 + s

abbrev pub region_at : Machine → ℕ → ℕ → Region
region_at m p s = get_or m.regions (row_of p s) no_region

abbrev pub with_region : Machine → ℕ → ℕ → Region → Machine
with_region m p s r = with_regions m (set m.regions (row_of p s) r)

-- the slots of a process's attached regions, in list order: the first `attached` rows of its part of `order`
unfoldable pub order_of : Machine → ℕ → List ℕ
order_of m p = take (process_at m p).attached (part 64 p m.order)

-- a process row with another count
abbrev pub attached_of : Process → ℕ → Process
attached_of q n = record { opened = q.opened; start = q.start; size = q.size; attached = n; mapped = q.mapped }

abbrev pub mapped_count : Process → ℕ → Process
mapped_count q n = record { opened = q.opened; start = q.start; size = q.size; attached = q.attached; mapped = n }

-- the list of a process's attached regions replaced
unfoldable pub with_order : Machine → ℕ → List ℕ → Machine
with_order m p l =
    record { processes = set m.processes p (attached_of (process_at m p) (length l)); regions = m.regions; order = put_part 64 p (pad 64 0 l) m.order; mapped = m.mapped; entries = m.entries; backings = m.backings; pool = m.pool; files = m.files; frame_count = m.frame_count; file_count = m.file_count }

-- a process's page table: the first `mapped` rows of its part, in page order
unfoldable pub mapped_of : Machine → ℕ → List Mapping
mapped_of m p = take (process_at m p).mapped (part 128 p m.mapped)

unfoldable pub with_mapped : Machine → ℕ → List Mapping → Machine
with_mapped m p l =
    record { processes = set m.processes p (mapped_count (process_at m p) (length l)); regions = m.regions; order = m.order; mapped = put_part 128 p (pad 128 no_mapping l) m.mapped; entries = m.entries; backings = m.backings; pool = m.pool; files = m.files; frame_count = m.frame_count; file_count = m.file_count }

-- what start leaves (RULES W3): no process, no region, no backing; every frame free; the files as they are lent
unfoldable pub empty_machine : ℕ → List File → Machine
empty_machine frames files =
    record { processes = replicate process_rows no_process; regions = replicate 512 no_region; order = replicate 512 0; mapped = replicate 1024 no_mapping; entries = replicate entry_rows no_entry; backings = replicate frame_rows no_backing; pool = record { free = frames; next = record { 0 = 0 } }; files = pad file_rows no_file files; frame_count = frames; file_count = length files }
