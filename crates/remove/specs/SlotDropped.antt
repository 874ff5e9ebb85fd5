-- The rest of a region dropped, its range let go and its slot free; with the entries, the whole region.
use Rattle.std.specs.Prelude.{◌≡◌, ◌≢◌, true, cond, ℕ, get_or, set}
use Rattle.model.specs.declared.Region.{Region}
use Rattle.model.specs.Machine.{Machine, no_region, with_regions}
use Rattle.model.specs.Lookup.{is_ranged}
use Rattle.model.specs.Backing.{backing_at, let_go}
use Rattle.model.specs.Remove.{drop_region}
use Rattle.backing.specs.Ready.{Ready}
use Rattle.remove.specs.Accounted.{Accounted}

-- ---- the range, if any

unfoldable pub range_gone : Machine → Region → Machine
range_gone m r = let gone = let_go m r.range.0 in cond (is_ranged r) gone m

-- where the pool is right and a range's backing in use
abbrev pub RangeGone : Machine → Region → Machine → Type 0
RangeGone m r n = Ready m → (is_ranged r ≡ true → (backing_at m r.range.0).len ≢ 0) → n ≡ range_gone m r

-- ---- the slot

unfoldable pub slot_dropped : Machine → ℕ → Machine
slot_dropped m row = let gone = range_gone m (get_or m.regions row no_region) in with_regions gone (set gone.regions row no_region)

-- what `drop_slot` leaves, on a machine that is accounted for
abbrev pub SlotGone : Machine → ℕ → Machine → Type 0
SlotGone m row n = Accounted m → n ≡ slot_dropped m row

-- what `drop_region` leaves: the model's, and a machine that is accounted for again
abbrev pub Dropped : Machine → ℕ → ℕ → Machine → Type 0
Dropped m p s n = Accounted m → Accounted n × (n ≡ drop_region m p s)
