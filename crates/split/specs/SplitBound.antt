-- A region split at a bound, and at both: what the code needs, and that it leaves what the model says (RULES V2).
use Rattle.std.specs.Prelude.{◌≡◌, true, ℕ, ◌+◌, ◌-◌, ◌^◌, ◌<◌}
use Rattle.model.specs.Machine.{Machine, region_at, row_of, with_region}
use Rattle.model.specs.Lookup.{free_slot, is_found}
use Rattle.model.specs.Carve.{strictly_inside, low_part, high_part, give_entries, Rest, split_bound}
use Rattle.split.specs.ListRoom.{Room}

-- the high part in a given slot
unfoldable pub cut_at : Machine → ℕ → ℕ → ℕ → ℕ → Machine
cut_at m p s t at = give_entries (with_region (with_region m p s (low_part (region_at m p s) at)) p t (high_part (region_at m p s) at)) (row_of p s) at (row_of p t)

abbrev pub from : Machine → ℕ → Rest
from m s = record { machine = m; slot = s }

-- where a bound lies inside the region in a slot: a slot is free, the list has room, and no sum is too large
pub record Splittable (m : Machine) (p s b : ℕ) : Type 0 where
  pub small : s < 64
  pub found : strictly_inside (region_at m p s) b ≡ true → is_found (free_slot m p) ≡ true
  pub sum : strictly_inside (region_at m p s) b ≡ true → (region_at m p s).offset + (b - (region_at m p s).start.0) < 2 ^ 64
  pub room : strictly_inside (region_at m p s) b ≡ true → Room m p

-- at both bounds, one after the other
pub record Bounded (m : Machine) (p s a e : ℕ) : Type 0 where
  pub low : Splittable m p s a
  pub high : Splittable (split_bound p a (from m s)).machine p (split_bound p a (from m s)).slot e
  pub room : Room (split_bound p e (split_bound p a (from m s))).machine p
