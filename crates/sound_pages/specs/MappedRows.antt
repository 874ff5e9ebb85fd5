-- The pass over the mapped pages: the place of a home in the list of attached regions, and the rows with one home, one after the other.
use Rattle.std.specs.Prelude.{◌≡◌, true, false, ℕ, ◌+◌, ◌*◌, ◌≤◌, ◌<◌, length, get_or, Option, Some, None}
use Rattle.model.specs.Machine.{Machine, region_at, mapped_of}
use Rattle.model.specs.Lookup.{contains}
use Rattle.model.specs.Paging.{page_start}
use Rattle.laws.specs.Loops.{Every}
use Rattle.paging.specs.Place.{page_at}
use Rattle.sound_pages.specs.MappedFit.{fit, all_fit}

-- the slot at a place of a process's list
abbrev pub slot_at : Machine → ℕ → ℕ → ℕ
slot_at m p i = get_or m.order (p * 64 + i) 0

-- no region from one place up to another holds an address
abbrev pub Unheld : Machine → ℕ → ℕ → ℕ → ℕ → Type 0
Unheld m p a from to = (j : ℕ) → from ≤ j → j < to → contains (region_at m p (slot_at m p j)) a ≡ false

-- a place below `to` whose region holds an address, or none from one place up to `to`
unfoldable pub HeldAt : Machine → ℕ → ℕ → ℕ → ℕ → Option ℕ → Type 0
HeldAt m p a from to (Some i) = (i < to) × (contains (region_at m p (slot_at m p i)) a ≡ true)
HeldAt m p a from to None = Unheld m p a from to

-- the slot at a place that was found
abbrev pub listed : Machine → ℕ → Option ℕ → Option ℕ
listed m p (Some i) = Some (slot_at m p i)
listed m p None = None

-- every mapped page fits exactly if those from row i on do
abbrev pub FitFrom : Machine → ℕ → ℕ → Type 0
FitFrom m p i = Every (λ i x. fit m p x) (mapped_of m p) (length (mapped_of m p)) i

-- after rows that start in the region of a slot, from one row on: where to go on, past the first if it starts there; or not every page fits
unfoldable pub Ran : Machine → ℕ → ℕ → ℕ → Option ℕ → Type 0
Ran m p s from (Some i) = FitFrom m p i × (i ≤ from → from < length (mapped_of m p) → contains (region_at m p s) (page_start (page_at (mapped_of m p) from)) ≡ false)
Ran m p s from None = false ≡ all_fit m p
