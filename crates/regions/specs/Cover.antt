-- How many addresses of a range lie in a region, and in the regions of some slots together.
use Rattle.std.specs.Prelude.{cond, List, [], ◌∷◌, ℕ, ◌+◌, ◌-◌, ltb}
use Rattle.model.specs.declared.Region.{Region}
use Rattle.model.specs.Machine.{Machine, region_at}
use Rattle.model.specs.Lookup.{span_end}

-- the end of a region, or the range's end where that is lower
abbrev pub end_within : Region → ℕ → ℕ
end_within r e = cond (ltb (span_end r) e) (span_end r) e

-- the start of a region, or the range's start where that is higher
abbrev pub start_within : Region → ℕ → ℕ
start_within r a = cond (ltb r.start.0 a) a r.start.0

abbrev pub shared_len : Region → ℕ → ℕ → ℕ
shared_len r a e = end_within r e - start_within r a

unfoldable pub shared_all : Machine → ℕ → List ℕ → ℕ → ℕ → ℕ
shared_all m p [] a e = 0
shared_all m p (s ∷ l) a e = shared_len (region_at m p s) a e + shared_all m p l a e
