-- The rows that hold backings, entries in use and regions with a range, and how many of them hold one.
use Rattle.std.specs.Prelude.{Bool, ◌&&◌, not, cond, List, map, ℕ, ◌/◌, eqb}
use Rattle.model.specs.declared.Entry.{Entry}
use Rattle.model.specs.declared.Region.{Region}
use Rattle.laws.specs.Lists.{keep, count}
use Rattle.model.specs.Lookup.{is_used, is_ranged, is_shared}
use Rattle.model.specs.Sound.{Hold}
use Rattle.model.specs.Create.{one}

abbrev pub one_if : Bool → ℕ
one_if b = cond b 1 0

-- rows that hold where u says so, each as g says
module _ {A : Type 0} (u : A → Bool) (g : A → Hold) (f : ℕ) where
  -- how many of them hold the backing at f
  abbrev pub holding : List A → ℕ
  holding l = count (λ h. eqb h.frame f) (map g (keep u l))

  -- what a row adds
  abbrev pub weight : A → ℕ
  weight x = cond (u x) (one_if (eqb (g x).frame f)) 0

-- the rows that hold: entries in use
abbrev pub entry_taken : Entry → Bool
entry_taken e = not (eqb e.owner 0)

-- the hold of an entry, of a range
abbrev pub entry_hold : Entry → Hold
entry_hold e = record { frame = e.frame.0; page = e.page.0; shared = 0 }

-- .. and regions with a range
abbrev pub range_taken : Region → Bool
range_taken r = is_used r && is_ranged r

abbrev pub range_hold : Region → Hold
range_hold r = record { frame = r.range.0; page = r.start.0 / 4096; shared = one (is_shared r) }

abbrev pub entries_hold : List Entry → ℕ → ℕ
entries_hold l f = holding entry_taken entry_hold f l

abbrev pub ranges_hold : List Region → ℕ → ℕ
ranges_hold l f = holding range_taken range_hold f l
