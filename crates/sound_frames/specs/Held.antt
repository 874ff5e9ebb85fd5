-- What the holders hold, as the rows that the code numbers: the entries, then the region slots.
use Rattle.std.specs.Prelude.{Bool, not, ◌&&◌, cond, List, ◌++◌, map, ℕ, ◌/◌, eqb, ltb}
use Rattle.model.specs.declared.Entry.{Entry}
use Rattle.model.specs.declared.Region.{Region}
use Rattle.model.specs.Machine.{Machine}
use Rattle.model.specs.Lookup.{is_used, is_ranged, is_shared}
use Rattle.model.specs.Create.{one}
use Rattle.sound_frames.specs.declared.held.Held.{Held}

-- the mark of a frame, if it is held
unfoldable pub place_of : Bool → ℕ → ℕ
place_of b f = cond (b && ltb f 256) f 256

abbrev pub entry_held : Entry → Held
entry_held e = record { frame = place_of (not (eqb e.owner 0)) e.frame.0; page = e.page.0; shared = 0 }

abbrev pub range_held : Region → Held
range_held r = record { frame = place_of (is_used r && is_ranged r) r.range.0; page = r.start.0 / 4096; shared = one (is_shared r) }

abbrev pub no_held : Held
no_held = record { frame = 256; page = 0; shared = 0 }

unfoldable pub held_rows : Machine → List Held
held_rows m = map entry_held m.entries ++ map range_held m.regions

abbrev pub at : ℕ → Held → Bool
at f x = eqb x.frame f
