-- The pages of a region's entries copied, in page order.
use Rattle.std.specs.Prelude.{◌≡◌, ◌≢◌, true, List, ℕ, ◌+◌, ◌*◌, ◌^◌, ◌<◌, length, get_or}
use Rattle.model.specs.declared.Entry.{Entry}
use Rattle.laws.specs.Lists.{each}
use Rattle.model.specs.Layout.{machine}
use Rattle.model.specs.Machine.{Machine, no_entry}
use Rattle.model.specs.Lookup.{is_found}
use Rattle.model.specs.Clone.{single_pages, copy_entry}
use Rattle.rows.specs.LentMemory.{state_of}
use Rattle.lookup.specs.NextEntry.{next_entry, OnceAPage}
use Rattle.clone_share.specs.ShareNext.{next_at}
use Rattle.clone_copy.specs.CopyPage.{CanCopy, Room}

pub record CopyNext (m : Machine) (size src from : ℕ) : Type 0 where
  pub found : is_found (next_entry m.entries src from) ≡ true
  pub can : CanCopy m size (next_at m.entries src from).frame.0
  pub page : (next_at m.entries src from).page.0 + 1 < 2 ^ 64

-- ---- all of them: the region's entries are those of a table with one entry a page

pub record SingleCopy (m : Machine) (size src row : ℕ) : Type 0 where
  pub base : List Entry
  pub once : OnceAPage base
  pub room : Room base m src m.frame_count (length (single_pages base src))
  pub other : src ≢ row
  pub bytes : size ≡ m.frame_count * 4096
  pub frames : (j : ℕ) → (get_or base j no_entry).owner ≡ src + 1 → (get_or base j no_entry).frame.0 < m.frame_count
  pub pages : (j : ℕ) → (get_or base j no_entry).owner ≡ src + 1 → (get_or base j no_entry).page.0 + 1 < 2 ^ 64

abbrev pub SinglesCopied : (words frames : List ℕ) (src row : ℕ) (words' frames' : List ℕ) → Type 0
SinglesCopied w f src row w' f' = (files : List ℕ) → state_of w' f' files ≡ each (copy_entry row) (single_pages (machine w).entries src) (state_of w f files)
