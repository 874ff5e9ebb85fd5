-- A region removed: unmapped, detached, and dropped unless it is pinned.
use Rattle.std.specs.Prelude.{◌≡◌, ℕ}
use Rattle.model.specs.Machine.{Machine}
use Rattle.model.specs.Remove.{remove_region}
use Rattle.paging.specs.WellPaged.{WellPaged}
use Rattle.remove.specs.Accounted.{Accounted}

-- a machine of which a process's regions can be removed: holders are accounted for, and its page table is well formed
pub record Removable (m : Machine) (p : ℕ) : Type 0 where
  pub accounted : Accounted m
  pub paged : WellPaged m p

-- ---- the removal

-- what `remove_region` leaves: the model's, and a machine of which regions can be removed again
abbrev pub Removed : Machine → ℕ → ℕ → Machine → Type 0
Removed m p s n = Removable m p → Removable n p × (n ≡ remove_region m p s)
