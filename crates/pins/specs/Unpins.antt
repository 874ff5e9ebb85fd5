-- One pin less, and whether that ends the region (RULES M2).
use Rattle.std.specs.Prelude.{◌≡◌, ℕ, Bool, not, ◌&&◌, ◌==◌}
use Rattle.model.specs.Machine.{Machine}
use Rattle.model.specs.Lookup.{is_attached}
use Rattle.model.specs.Pins.{unpin_region}
use Rattle.remove.specs.Accounted.{Accounted}

-- ---- whether an unpin ends the region

abbrev pub ends_by : Machine → ℕ → ℕ → ℕ → Bool
ends_by m p s pins = pins == 1 && not (is_attached m p s)

-- ---- one pin less

-- what `unpin_region` leaves
abbrev pub Unpinned : Machine → ℕ → ℕ → Machine → Type 0
Unpinned m p s n = Accounted m → n ≡ unpin_region m p s
