-- A machine that keeps the rules but owes holders: a backing has `d` holders more than hold it. With none owed it is a sound machine's.
-- Each rule by row and by membership, with no bound where a row past the end keeps it too.
use Rattle.std.specs.Prelude.{◌≡◌, ◌⊎◌, ◌≢◌, true, List, ℕ, ◌+◌, ◌-◌, ◌*◌, ◌/◌, ◌%◌, ◌≤◌, ◌<◌, length, get_or, drop}
use Rattle.address.specs.Pages.{aligned}
use Rattle.model.specs.declared.Process.{Process}
use Rattle.model.specs.declared.Region.{Region}
use Rattle.model.specs.declared.Mapping.{Mapping}
use Rattle.model.specs.declared.Entry.{Entry}
use Rattle.laws.specs.Lists.{part}
use Rattle.model.specs.Machine.{Machine, State, process_at, region_at, row_of, order_of, mapped_of, no_process, no_region, no_entry, no_file, user_end}
use Rattle.model.specs.Lookup.{contains}
use Rattle.model.specs.Paging.{page_start}
use Rattle.model.specs.Backing.{backing_at}
use Rattle.laws.specs.Tests.{Rows}
use Rattle.model.specs.Sound.{Used, Apart, R2, Hold, Flagged, RegionFits, EntryFits, Paged, FileFits, holders_of}
use Rattle.laws.specs.In.{In, Once}
use Rattle.model.specs.Holders.{entry_hold, range_hold}

-- rows by number, a free one past the end
abbrev pub row_at : Machine → ℕ → Region
row_at m i = get_or m.regions i no_region

abbrev pub entry_at : Machine → ℕ → Entry
entry_at m i = get_or m.entries i no_entry

-- R6's counts, of the machine alone
pub record Sizes (m : Machine) : Type 0 where
  pub processes : length m.processes ≡ 8
  pub regions : length m.regions ≡ 512
  pub order : length m.order ≡ 512
  pub mapped : length m.mapped ≡ 1024
  pub entries : length m.entries ≡ 512
  pub backings : length m.backings ≡ 256
  pub files : length m.files ≡ 8
  pub frame_count : m.frame_count ≤ 256
  pub file_count : m.file_count ≤ 8

-- an open or closed process's row by itself
pub record Arena (q : Process) : Type 0 where
  pub aligned_start : aligned q.start.0 ≡ true
  pub aligned_size : aligned q.size ≡ true
  pub user_start : q.start.0 < user_end
  pub user_last : q.start.0 + q.size ≤ user_end
  pub attached : q.attached ≤ 64
  pub mapped : q.mapped ≤ 128

-- ---- what backs a page of the region at a row: the backing at `base`, in it the frame `fr`

-- by an entry of the row and the page
pub record ByEntry (m : Machine) (row pg base fr : ℕ) : Type 0 where
  pub at : ℕ
  pub owner : (entry_at m at).owner ≡ row + 1
  pub page : (entry_at m at).page.0 ≡ pg
  pub start : (entry_at m at).frame.0 ≡ base
  pub frame : fr ≡ base

-- by the region's range, where no entry is
pub record ByRange (m : Machine) (row pg base fr : ℕ) : Type 0 where
  pub none : (i : ℕ) → (entry_at m i).owner ≡ row + 1 → (entry_at m i).page.0 ≢ pg
  pub ranged : (row_at m row).ranged ≡ 1
  pub start : (row_at m row).range.0 ≡ base
  pub within : pg - (row_at m row).start.0 / 4096 < (backing_at m base).len
  pub frame : fr ≡ base + (pg - (row_at m row).start.0 / 4096)

abbrev pub Backs : Machine → ℕ → ℕ → ℕ → ℕ → Type 0
Backs m row pg base fr = ByEntry m row pg base fr ⊎ ByRange m row pg base fr

-- R4 and R5 of a mapping: its region's slot, the backing of its page, and its flags
pub record Placed (m : Machine) (p : ℕ) (x : Mapping) : Type 0 where
  pub slot : ℕ
  pub listed : In slot (order_of m p)
  pub inside : contains (region_at m p slot) (page_start x.page.0) ≡ true
  pub base : ℕ
  pub backed : Backs m (row_of p slot) x.page.0 base x.frame.0
  pub flagged : Flagged (region_at m p slot) x.flags.0 (backing_at m base).holders

-- h is the hold of an entry in use
pub record EntryHolds (l : List Entry) (h : Hold) : Type 0 where
  pub row : ℕ
  pub taken : (get_or l row no_entry).owner ≢ 0
  pub is : h ≡ entry_hold (get_or l row no_entry)

-- h is the hold of a region's range
pub record RangeHolds (l : List Region) (h : Hold) : Type 0 where
  pub row : ℕ
  pub taken : Used (get_or l row no_region)
  pub ranged : (get_or l row no_region).ranged ≡ 1
  pub is : h ≡ range_hold (get_or l row no_region)

-- h is a hold of the machine
abbrev pub Holds : Machine → Hold → Type 0
Holds m h = EntryHolds m.entries h ⊎ RangeHolds m.regions h

-- holds of one backing hold it at one page, both Shared or neither
abbrev pub Agree : Hold → Hold → Type 0
Agree h k = h.frame ≡ k.frame → (h.page ≡ k.page) × (h.shared ≡ k.shared)

-- no process lists the region at a row
abbrev pub Unlisted : Machine → ℕ → Type 0
Unlisted m row = (p t : ℕ) → p < 8 → In t (order_of m p) → row_of p t ≢ row

-- ---- the rules

-- R1 to R6 of the machine, but that each backing f has d f holders more than are counted
pub record Owing (d : ℕ → ℕ) (m : Machine) : Type 0 where
  pub sizes : Sizes m
  -- R2
  pub pool : R2 m
  -- R3
  pub counted : (f : ℕ) → (backing_at m f).holders ≡ holders_of m f + d f
  pub held : (f : ℕ) → (backing_at m f).len ≢ 0 → 1 ≤ (backing_at m f).holders
  pub unheld : (f : ℕ) → (backing_at m f).len ≡ 0 → (backing_at m f).holders ≡ 0
  -- R1 and the regions' rows
  pub apart : (i j : ℕ) → i ≢ j → i / 64 ≡ j / 64 → Used (row_at m i) → Used (row_at m j) → Apart (row_at m i) (row_at m j)
  pub regions : (i : ℕ) → RegionFits m (row_at m i)
  -- entries and holds
  pub entries : (i : ℕ) → EntryFits m (entry_at m i)
  pub once_a_page : (i j : ℕ) → i ≢ j → (entry_at m i).owner ≢ 0 → (entry_at m i).owner ≡ (entry_at m j).owner → (entry_at m i).page.0 ≢ (entry_at m j).page.0
  pub one_page : (h k : Hold) → Holds m h → Holds m k → Agree h k
  -- processes and their lists
  pub closed : (p : ℕ) → (process_at m p).opened ≢ 1 → process_at m p ≡ no_process
  pub empty : (i : ℕ) → (process_at m (i / 64)).opened ≢ 1 → (row_at m i).kind ≡ 0
  pub arenas : (p : ℕ) → p < 8 → Arena (process_at m p)
  pub listed : (p s : ℕ) → p < 8 → In s (order_of m p) → (s < 64) × Used (region_at m p s)
  pub once : (p : ℕ) → p < 8 → Once (order_of m p)
  pub pinned : (i : ℕ) → Used (row_at m i) → In (i % 64) (order_of m (i / 64)) ⊎ (1 ≤ (row_at m i).pins)
  pub order_rest : (p : ℕ) → p < 8 → Rows 0 (drop (process_at m p).attached (part 64 p m.order)) (λ i s. s ≡ 0)
  -- R4, R5 and the page tables
  pub paged : (p : ℕ) → p < 8 → Paged m p (process_at m p)
  pub mapped : (p : ℕ) → p < 8 → (x : Mapping) → In x (mapped_of m p) → Placed m p x

-- no debt: the rules themselves
abbrev pub nothing : ℕ → ℕ
nothing f = 0

-- what is lent with a machine: its frames' and its files' bytes
pub record Lent (s : State) : Type 0 where
  pub frames : length s.frames ≡ s.machine.frame_count * 4096
  pub files : Rows no_file s.machine.files (FileFits s)
