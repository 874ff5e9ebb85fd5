-- The pages of a range copied, one after the other; those with an entry are passed.
use Rattle.std.specs.Prelude.{◌≡◌, ◌≢◌, List, ℕ, ◌+◌, ◌*◌, ◌≤◌, length}
use Rattle.model.specs.declared.Region.{Region}
use Rattle.laws.specs.Lists.{keep, each}
use Rattle.model.specs.Layout.{machine}
use Rattle.model.specs.Machine.{Machine}
use Rattle.model.specs.Clone.{Held, copy_entry}
use Rattle.rows.specs.LentMemory.{state_of}
use Rattle.clone_pages.specs.BackedPages.{frames_from, bare_in}
use Rattle.clone_copy.specs.CopyPage.{Room}

abbrev pub bare_all : Machine → ℕ → Region → ℕ → List Held
bare_all m src r len = keep (bare_in m src) (frames_from r 0 len)

pub record RangeCopy (m : Machine) (size src row : ℕ) (r : Region) (len : ℕ) : Type 0 where
  pub room : Room m.entries m src m.frame_count (length (bare_all m src r len))
  pub other : src ≢ row
  pub bytes : size ≡ m.frame_count * 4096
  pub inside : 1 ≤ len → r.range.0 + len ≤ m.frame_count
  pub few : m.frame_count ≤ 256
  pub long : len ≤ 256

abbrev pub RangeCopied : (words frames : List ℕ) (src row : ℕ) → Region → ℕ → (words' frames' : List ℕ) → Type 0
RangeCopied w f src row r len w' f' = (files : List ℕ) → state_of w' f' files ≡ each (copy_entry row) (bare_all (machine w) src r len) (state_of w f files)
