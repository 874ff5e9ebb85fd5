-- Verdicts and places as numbers.
use Rattle.std.specs.Prelude.{Bool, true, false, cond, ℕ, eqb}
use Rattle.model.specs.declared.Place.{Place}

abbrev pub sound_number : Bool → ℕ
sound_number true = 0
sound_number false = 1

-- a start that is given, or the lowest free one
unfoldable pub place_of : ℕ → ℕ → Place
place_of given start = cond (eqb given 0) Place.Lowest (Place.At (record { 0 = start }))
