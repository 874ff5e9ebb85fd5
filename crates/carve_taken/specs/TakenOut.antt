-- The slots that stay in list order where a range cuts regions (RULES V2).
use Rattle.std.specs.Prelude.{Bool, not, ℕ}
use Rattle.model.specs.Machine.{Machine}
use Rattle.model.specs.Carve.{partial}

-- whether a range does not cut the region in a slot
abbrev pub whole : Machine → ℕ → ℕ → ℕ → ℕ → Bool
whole m p a e s = not (partial m p a e s)
