-- What backs a page: the backing at any frame number, and the two ways of the model's `backing`, by the page entry and by the range.
use Rattle.std.specs.Prelude.{◌&&◌, cond, ℕ, ◌+◌, ◌-◌, ◌/◌, get_or, ltb, Option, Some, None}
use Rattle.model.specs.declared.Region.{Region}
use Rattle.model.specs.declared.Backed.{Backed}
use Rattle.model.specs.declared.Backed.TheVariants.{ByEntry, ByRange, Unbacked}
use Rattle.model.specs.Machine.{Machine, no_entry}
use Rattle.model.specs.Lookup.{is_ranged}
use Rattle.model.specs.Backing.{backing_at}

-- by the entry in the row found
abbrev pub by_entry : Machine → Option ℕ → Backed
by_entry m None = Unbacked
by_entry m (Some i) = ByEntry i (get_or m.entries i no_entry).frame (backing_at m (get_or m.entries i no_entry).frame.0).holders

-- how many pages a page lies past a region's first
abbrev pub pages_past : Region → ℕ → ℕ
pages_past r page = page - r.start.0 / 4096

-- by a region's range
abbrev pub by_range : Machine → Region → ℕ → Backed
by_range m r page = cond (is_ranged r && ltb (pages_past r page) (backing_at m r.range.0).len) (ByRange (record { 0 = r.range.0 + pages_past r page }) (backing_at m r.range.0).holders) Unbacked

-- the first where it backs the page, else the second
abbrev pub else_by : Backed → Backed → Backed
else_by Unbacked y = y
else_by (ByEntry i f n) y = ByEntry i f n
else_by (ByRange f n) y = ByRange f n
