-- What carve answers: the starts of regions inside a range.
use Rattle.std.specs.Prelude.{List, ℕ}
use Rattle.laws.specs.Lists.{keep}
use Rattle.model.specs.Machine.{Machine, region_at}
use Rattle.model.specs.Lookup.{lies_inside, starts_of}

-- the starts of those regions, of some slots, that lie inside a range
abbrev pub starts_in : Machine → ℕ → ℕ → ℕ → List ℕ → List ℕ
starts_in m p a e l = starts_of m p (keep (λ s. lies_inside (region_at m p s) a e) l)
