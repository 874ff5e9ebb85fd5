-- Pins: one more, one less, and what the last unpin ends.
use Rattle.std.specs.Prelude.{◌&&◌, not, cond, ℕ, ◌+◌, ◌-◌, eqb}
use Rattle.model.specs.declared.Region.{Region}
use Rattle.model.specs.Machine.{Machine, with_region, region_at}
use Rattle.model.specs.Lookup.{is_attached}
use Rattle.model.specs.Remove.{drop_region}

abbrev pub with_pins : Region → ℕ → Region
with_pins r n = record { kind = r.kind; start = r.start; size = r.size; flags = r.flags; fork = r.fork; per_thread = r.per_thread; pins = n; file = r.file; offset = r.offset; length = r.length; ranged = r.ranged; range = r.range }

unfoldable pub pin_region : Machine → ℕ → ℕ → Machine
pin_region m p s = with_region m p s (with_pins (region_at m p s) ((region_at m p s).pins + 1))

-- the last unpin of a detached region ends it
unfoldable pub unpin_region : Machine → ℕ → ℕ → Machine
unpin_region m p s =
    let r = region_at m p s in
    let fewer = with_region m p s (with_pins r (r.pins - 1)) in
    cond (eqb r.pins 1 && not (is_attached m p s)) (drop_region m p s) fewer
