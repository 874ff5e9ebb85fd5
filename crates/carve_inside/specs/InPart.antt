-- A region against a range, test by test, with no sum that could be too large (RULES V2, V4).
use Rattle.std.specs.Prelude.{Bool, ◌&&◌, not, ℕ}
use Rattle.model.specs.declared.Region.{Region}
use Rattle.model.specs.Lookup.{overlaps, lies_inside}

-- Carve's partial, of a region
abbrev pub in_part : Region → ℕ → ℕ → Bool
in_part r a e = overlaps r a e && not (lies_inside r a e)
