-- The page entries of a region dropped one by one, lowest first: each lets its frame go and is free.
use Rattle.std.specs.Prelude.{◌≡◌, ◌≢◌, Bool, cond, List, map, ℕ, ◌+◌, get_or, set, eqb}
use Rattle.model.specs.declared.Entry.{Entry}
use Rattle.laws.specs.Lists.{each}
use Rattle.model.specs.Machine.{Machine, no_entry, with_entries}
use Rattle.model.specs.Backing.{backing_at, let_go}
use Rattle.model.specs.Remove.{frames_of}
use Rattle.backing.specs.Ready.{Ready}
use Rattle.remove.specs.Accounted.{Accounted}

-- ---- one holder less, and what it leaves alone

-- where the pool is right and the backing in use
abbrev pub LetsGo : Machine → ℕ → Machine → Type 0
LetsGo m f n = Ready m → (backing_at m f).len ≢ 0 → n ≡ let_go m f

abbrev pub all_gone : List ℕ → Machine → Machine
all_gone l m = each (λ f n. let_go n f) l m

-- ---- a region's entries

-- whether an entry is that of the region in a row
abbrev pub owned_by : ℕ → Entry → Bool
owned_by row e = eqb e.owner (row + 1)

abbrev pub freed : ℕ → Entry → Entry
freed row e = cond (owned_by row e) no_entry e

-- a region's entries all let go and free
unfoldable pub entries_dropped : Machine → ℕ → Machine
entries_dropped m row = with_entries (all_gone (frames_of m.entries row) m) (map (freed row) m.entries)

-- the entry in row i alone
unfoldable pub entry_dropped : Machine → ℕ → Machine
entry_dropped m i = with_entries (let_go m (get_or m.entries i no_entry).frame.0) (set m.entries i no_entry)

-- .. where it is the region's
unfoldable pub entry_left : Machine → ℕ → ℕ → Machine
entry_left m row i = let dropped = entry_dropped m i in cond (owned_by row (get_or m.entries i no_entry)) dropped m

-- ---- the entries in one pass

-- what a step leaves, on a machine that is accounted for
abbrev pub EntryGone : Machine → ℕ → ℕ → Machine → Type 0
EntryGone m row i n = Accounted m → n ≡ entry_left m row i

-- the entries all passed
abbrev pub EntriesGone : Machine → ℕ → Machine → Type 0
EntriesGone m row n = Accounted m → Accounted n × (n ≡ entries_dropped m row)
