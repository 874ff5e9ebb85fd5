-- A region's flags replaced, and its mapped pages row by row (RULES M1).
use Rattle.std.specs.Prelude.{◌≡◌, cond, ℕ, ◌≤◌}
use Rattle.model.specs.declared.Mapping.{Mapping}
use Rattle.model.specs.Machine.{Machine, region_at}
use Rattle.model.specs.Paging.{mapping, maps_in}
use Rattle.model.specs.Backing.{backing_at}
use Rattle.model.specs.Protect.{page_flags, set_protection}
use Rattle.paging.specs.WellPaged.{WellPaged}

-- what the look-up of a backing asks of a region's range
abbrev pub RangeFits : Machine → ℕ → ℕ → Type 0
RangeFits m p s = (backing_at m (region_at m p s).range.0).len ≤ 256

-- ---- one row

abbrev pub protected_in : Machine → ℕ → ℕ → ℕ → Mapping → Mapping
protected_in m p s flags x = cond (maps_in (region_at m p s) x) (mapping x.page.0 x.frame.0 (page_flags m p s flags x.page.0)) x

-- ---- the whole region

abbrev pub Protected : Machine → ℕ → ℕ → ℕ → Machine → Type 0
Protected m p s flags n = WellPaged m p → n ≡ set_protection m p s flags
