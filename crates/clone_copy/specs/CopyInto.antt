-- A region's clone that copies: from what the parts leave to the model's copy_into (RULES K1, K3).
use Rattle.std.specs.Prelude.{◌≡◌, ◌≢◌, List, ◌++◌, ℕ, ◌+◌, ◌*◌, ◌^◌, ◌≤◌, ◌<◌, length, get_or, Some}
use Rattle.model.specs.declared.Region.{Region}
use Rattle.laws.specs.Lists.{each}
use Rattle.model.specs.Layout.{machine}
use Rattle.model.specs.Machine.{Machine, region_at, no_entry}
use Rattle.model.specs.Lookup.{free_slot, free_entries}
use Rattle.model.specs.Clone.{Held, single_pages, backed_pages, copy_entry, copy_into}
use Rattle.rows.specs.LentMemory.{state_of, SoundFrames}
use Rattle.lookup.specs.NextEntry.{OnceAPage}
use Rattle.backing.specs.Ready.{Ready}
use Rattle.clone_pages.specs.BackedPages.{range_len}
use Rattle.clone_copy.specs.CopyRange.{bare_all}

-- ---- the range's pages, then the entries'

abbrev pub pages_of : Machine → ℕ → Region → List Held
pages_of m src r = bare_all m src r (range_len m r) ++ single_pages m.entries src

pub record PagesCopy (m : Machine) (size src row : ℕ) (r : Region) : Type 0 where
  pub once : OnceAPage m.entries
  pub ready : Ready m
  pub left : length (pages_of m src r) ≤ free_entries m
  pub free : length (pages_of m src r) ≤ m.pool.free
  pub other : src ≢ row
  pub bytes : size ≡ m.frame_count * 4096
  pub inside : 1 ≤ range_len m r → r.range.0 + range_len m r ≤ m.frame_count
  pub frames : (j : ℕ) → (get_or m.entries j no_entry).owner ≡ src + 1 → (get_or m.entries j no_entry).frame.0 < m.frame_count
  pub pages : (j : ℕ) → (get_or m.entries j no_entry).owner ≡ src + 1 → (get_or m.entries j no_entry).page.0 + 1 < 2 ^ 64

abbrev pub PagesCopied : (words frames : List ℕ) (src row : ℕ) → Region → (words' frames' : List ℕ) → Type 0
PagesCopied w f src row r w' f' = (files : List ℕ) → state_of w' f' files ≡ each (copy_entry row) (pages_of (machine w) src r) (state_of w f files)

-- ---- the whole region

-- a sound machine, a region in a slot, a free slot, and entries and frames enough
pub record Copyable (w f : List ℕ) (p s q i : ℕ) : Type 0 where
  pub sound : SoundFrames w f
  pub used : (region_at (machine w) p s).kind ≢ 0
  pub slot : free_slot (machine w) q ≡ Some i
  pub left : length (backed_pages (machine w) p s) ≤ free_entries (machine w)
  pub free : length (backed_pages (machine w) p s) ≤ (machine w).pool.free

abbrev pub CopiedInto : (words frames : List ℕ) (p s q : ℕ) (words' frames' : List ℕ) → Type 0
CopiedInto w f p s q w' f' = (files : List ℕ) → state_of w' f' files ≡ copy_into (state_of w f files) p s q
