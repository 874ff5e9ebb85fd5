-- R4 and R5 of a mapped page as one test, and what it asks where the page has an entry, a range, or no home.
use Rattle.std.specs.Prelude.{Bool, ◌&&◌, ℕ, ◌+◌, ◌-◌, get_or, eqb, ltb}
use Rattle.model.specs.declared.Region.{Region}
use Rattle.model.specs.declared.Mapping.{Mapping}
use Rattle.model.specs.declared.Entry.{Entry}
use Rattle.model.specs.Machine.{Machine, no_region, mapped_of}
use Rattle.model.specs.Lookup.{is_ranged}
use Rattle.model.specs.Backing.{backing_at}
use Rattle.laws.specs.Tests.{all_rows}
use Rattle.model.specs.SoundTest.{homedb, flags_fit, flaggedb}
use Rattle.lookup.specs.Backed.{pages_past}

-- a mapped page has a home, the frame that backs it there, and flags that fit
abbrev pub fit : Machine → ℕ → Mapping → Bool
fit m p x = homedb m p x && flags_fit m p x

-- .. every mapped page of a process
abbrev pub all_fit : Machine → ℕ → Bool
all_fit m p = all_rows (λ i x. fit m p x) 0 (mapped_of m p)

-- ---- by what the page is backed

-- an entry's frame and the flags that it allows
abbrev pub allows : Machine → Entry → Mapping → Bool
allows m e x = eqb e.frame.0 x.frame.0 && flaggedb (get_or m.regions (e.owner - 1) no_region) x.flags.0 (backing_at m e.frame.0).holders

-- a range's frame and the flags that it allows
abbrev pub range_allows : Machine → Region → Mapping → Bool
range_allows m r x =
    (is_ranged r && ltb (pages_past r x.page.0) (backing_at m r.range.0).len)
    && (eqb (r.range.0 + pages_past r x.page.0) x.frame.0 && flaggedb r x.flags.0 (backing_at m r.range.0).holders)
