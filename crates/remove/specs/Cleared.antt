-- A process's regions removed one after the other, the first of the list until none is left.
use Rattle.std.specs.Prelude.{◌≡◌, ◌≢◌, List, ◌∷◌, ℕ, ◌<◌}
use Rattle.laws.specs.Tests.{Rows, Pairs}
use Rattle.model.specs.Machine.{Machine, order_of}
use Rattle.model.specs.Remove.{clear_regions, close_process}
use Rattle.remove.specs.Removed.{Removable, Removed}

-- slots, none twice
pub record Slots (l : List ℕ) : Type 0 where
  pub small : Rows 0 l (λ i s. s < 64)
  pub once : Pairs 0 l (λ s. Unit {0}) (λ s t. s ≢ t)

-- a machine of which all of a process's regions can be removed
pub record Clearable (m : Machine) (p : ℕ) : Type 0 where
  pub removable : Removable m p
  pub slots : Slots (order_of m p)

-- ---- the first of the list

-- what `remove_first` leaves
abbrev pub FirstRemoved : Machine → ℕ → Machine → Type 0
FirstRemoved m p n = (s : ℕ) (l : List ℕ) → order_of m p ≡ s ∷ l → s < 64 → Removed m p s n

-- what `clear` leaves
abbrev pub Cleared : Machine → ℕ → Machine → Type 0
Cleared m p n = Clearable m p → n ≡ clear_regions m p

-- ---- the process closed

abbrev pub Closed : Machine → ℕ → Machine → Type 0
Closed m p n = Clearable m p → n ≡ close_process m p
