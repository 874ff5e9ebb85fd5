-- The entries of a clone, one after the other in page order (RULES K2).
use Rattle.std.specs.Prelude.{◌≡◌, ◌≢◌, true, List, ℕ, ◌+◌, ◌^◌, ◌≤◌, ◌<◌, length, get_or}
use Rattle.model.specs.declared.Entry.{Entry}
use Rattle.model.specs.Machine.{Machine, no_entry}
use Rattle.model.specs.Lookup.{is_found, row_found, free_entries}
use Rattle.model.specs.Backing.{backing_at}
use Rattle.model.specs.Clone.{single_pages}
use Rattle.lookup.specs.NextEntry.{next_entry, OnceAPage}
use Rattle.backing.specs.Ready.{Ready}

-- the entry that comes next
abbrev pub next_at : List Entry → ℕ → ℕ → Entry
next_at t src page = get_or t (row_found (next_entry t src page)) no_entry

-- a frame that one more may hold
pub record CanShare (m : Machine) (f : ℕ) : Type 0 where
  pub ready : Ready m
  pub used : (backing_at m f).len ≢ 0
  pub few : (backing_at m f).holders + 1 < 2 ^ 64
  pub entry : 1 ≤ free_entries m

pub record ShareNext (m : Machine) (src from : ℕ) : Type 0 where
  pub found : is_found (next_entry m.entries src from) ≡ true
  pub can : CanShare m (next_at m.entries src from).frame.0
  pub page : (next_at m.entries src from).page.0 + 1 < 2 ^ 64

-- ---- all of them

-- a machine in which the entries of the region in row src can be shared with the one in another row
pub record Shareable (m : Machine) (src row : ℕ) : Type 0 where
  pub ready : Ready m
  pub once : OnceAPage m.entries
  pub other : src ≢ row
  pub frames : (j : ℕ) → (get_or m.entries j no_entry).owner ≡ src + 1 → (backing_at m (get_or m.entries j no_entry).frame.0).len ≢ 0
  pub pages : (j : ℕ) → (get_or m.entries j no_entry).owner ≡ src + 1 → (get_or m.entries j no_entry).page.0 + 1 < 2 ^ 64
  pub holders : (f : ℕ) → (backing_at m f).holders + 512 < 2 ^ 64
  pub left : length (single_pages m.entries src) ≤ free_entries m
