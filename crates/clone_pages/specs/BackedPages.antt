-- How many pages of a region are backed by entries, and how many by its range alone (RULES K2, K3).
use Rattle.std.specs.Prelude.{Bool, not, cond, List, map, ℕ, ◌+◌, ◌/◌}
use Rattle.model.specs.declared.Region.{Region}
use Rattle.laws.specs.Lists.{up_from}
use Rattle.model.specs.Machine.{Machine}
use Rattle.model.specs.Lookup.{is_found, is_ranged}
use Rattle.model.specs.Backing.{backing_at, entry_for}
use Rattle.model.specs.Clone.{Held}

-- ---- the range

unfoldable pub range_len : Machine → Region → ℕ
range_len m r = cond (is_ranged r) (backing_at m r.range.0).len 0

abbrev pub bare_one : Machine → ℕ → ℕ → ℕ
bare_one m row page = cond (is_found (entry_for m row page)) 0 1

-- the range's pages from the i-th on, n of them, and those of them with no entry
abbrev pub frames_from : Region → ℕ → ℕ → List Held
frames_from r i n = map (λ j. record { page = r.start.0 / 4096 + j; frame = r.range.0 + j }) (up_from i n)

abbrev pub bare_in : Machine → ℕ → Held → Bool
bare_in m row h = not (is_found (entry_for m row h.page))
