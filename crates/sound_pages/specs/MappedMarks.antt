-- Marks of the mapped rows whose pages have an entry: what the pass over the entries knows, and what it tells of every mapped page.
use Rattle.std.specs.Prelude.{◌≡◌, Bool, true, ◌&&◌, List, ℕ, ◌+◌, ◌*◌, ◌<◌, length, get_or, ltb, leb}
use Rattle.model.specs.declared.Entry.{Entry}
use Rattle.model.specs.Machine.{Machine, no_entry, no_mapping, mapped_of}
use Rattle.paging.specs.Place.{page_at}
use Rattle.sound_lists.specs.Marks.{marked}
use Rattle.sound_pages.specs.MappedFit.{allows}

-- an entry is of a region of a process
abbrev pub of_process : ℕ → Entry → Bool
of_process p e = ltb (p * 64) e.owner && leb e.owner (p * 64 + 64)

-- entry k is of a region of the process, and its page is mapped in row i
pub record Standing (m : Machine) (p k i : ℕ) : Type 0 where
  pub owned : of_process p (get_or m.entries k no_entry) ≡ true
  pub within : i < length (mapped_of m p)
  pub page : page_at (mapped_of m p) i ≡ (get_or m.entries k no_entry).page.0

-- a marked row has an entry, which allows what is mapped
pub record Allowed (m : Machine) (p i : ℕ) : Type 0 where
  pub row : ℕ
  pub low : row < 512
  pub standing : Standing m p row i
  pub fits : allows m (get_or m.entries row no_entry) (get_or (mapped_of m p) i no_mapping) ≡ true

-- the marks after j entries
pub record Seen (m : Machine) (p j : ℕ) (marks : List ℕ) : Type 0 where
  pub every : (k i : ℕ) → k < j → Standing m p k i → marked marks i ≡ true
  pub some : (i : ℕ) → i < length (mapped_of m p) → marked marks i ≡ true → Allowed m p i
