-- A machine whose holders are accounted for: every backing that is held is in use, with a holder for each hold.
use Rattle.std.specs.Prelude.{◌≡◌, ◌≢◌, true, List, ℕ, ◌≤◌, get_or}
use Rattle.model.specs.declared.Region.{Region}
use Rattle.model.specs.Machine.{Machine, no_region}
use Rattle.model.specs.Lookup.{is_used, is_ranged}
use Rattle.model.specs.Backing.{backing_at}
use Rattle.model.specs.Sound.{holders_of}
use Rattle.backing.specs.Ready.{Ready}

-- a free slot has no range
abbrev pub FreeUnranged : List Region → Type 0
FreeUnranged l = (i : ℕ) → is_ranged (get_or l i no_region) ≡ true → is_used (get_or l i no_region) ≡ true

pub record Accounted (m : Machine) : Type 0 where
  pub ready : Ready m
  pub held : (f : ℕ) → 1 ≤ holders_of m f → ((backing_at m f).len ≢ 0) × (holders_of m f ≤ (backing_at m f).holders)
  pub slots : FreeUnranged m.regions
