-- Holders of a frame compared with the first.
use Rattle.std.specs.Prelude.{◌≡◌, Bool, true, ◌&&◌, cond, false, ℕ, ◌-◌, ◌≤◌, ◌<◌, eqb, ◌≢◌, List, length, get_or}
use Rattle.model.specs.Machine.{Machine}
use Rattle.laws.specs.Tests.{all_rows}
use Rattle.model.specs.SoundTest.{entry_fits, region_fits}
use Rattle.sound_frames.specs.declared.held.Held.{Held}
use Rattle.sound_frames.specs.Held.{no_held}

-- entries and regions fit, so that what they hold are frames of the machine
abbrev pub HoldersFit : Machine → Type 0
HoldersFit m = (all_rows (λ i e. entry_fits m e) 0 m.entries ≡ true) × (all_rows (λ i r. region_fits m r) 0 m.regions ≡ true)

-- whether the second holds its frame at the page of the first, Shared or not as the first
abbrev pub alike_held : Held → Held → Bool
alike_held x y = eqb y.page x.page && eqb y.shared x.shared

-- the mark of a frame: the one that it had, or else this number
abbrev pub first_mark : ℕ → ℕ → ℕ
first_mark mark number = cond (eqb mark 0) number mark

-- ---- what the code tests

abbrev pub Same : Held → Held → Type 0
Same x y = (y.page ≡ x.page) × (y.shared ≡ x.shared)

-- ---- the first holder of each frame

abbrev pub row_at : List Held → ℕ → Held
row_at l j = get_or l j no_held

-- of k holders, the number of each frame's first plus 1; all that hold the frame are alike it
pub record Firsts (l : List Held) (marks : List ℕ) (k : ℕ) : Type 0 where
  pub low : k ≤ 1024
  pub sized : length marks ≡ 256
  pub few : (f : ℕ) → f < 256 → get_or marks f 0 ≤ k
  pub first : (f : ℕ) → f < 256 → get_or marks f 0 ≢ 0 → (row_at l (get_or marks f 0 - 1)).frame ≡ f
  pub same : (j : ℕ) → j < k → (row_at l j).frame < 256 → (get_or marks (row_at l j).frame 0 ≢ 0) × Same (row_at l (get_or marks (row_at l j).frame 0 - 1)) (row_at l j)

-- holders of one frame are alike
abbrev pub Alike : List Held → Type 0
Alike l = (i j : ℕ) → i < j → j < 1024 → (row_at l i).frame < 256 → (row_at l j).frame < 256 → (row_at l i).frame ≡ (row_at l j).frame → ((row_at l i).page ≡ (row_at l j).page) × ((row_at l i).shared ≡ (row_at l j).shared)

-- after k holders: the marks are known, or that holders of one frame are not alike
abbrev pub Compared : List Held → List ℕ → ℕ → Bool → Type 0
Compared l marks k true = Firsts l marks k
Compared l marks k false = Alike l → ⊥
