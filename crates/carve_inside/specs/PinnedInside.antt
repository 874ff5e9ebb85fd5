-- Whether a region inside a range is pinned: one place of list order after the other.
use Rattle.std.specs.Prelude.{Bool, ◌&&◌, ℕ}
use Rattle.model.specs.Machine.{Machine, region_at}
use Rattle.model.specs.Lookup.{lies_inside, is_pinned}

abbrev pub pinned_in : Machine → ℕ → ℕ → ℕ → ℕ → Bool
pinned_in m p a e s = lies_inside (region_at m p s) a e && is_pinned (region_at m p s)
