-- The page entry of a page that gets another frame, whatever the rows are (RULES T10).
use Rattle.std.specs.Prelude.{◌≡◌, true, ℕ, ◌+◌, ◌<◌, get_or, set, Option, Some, None}
use Rattle.model.specs.declared.Entry.{Entry}
use Rattle.model.specs.Machine.{Machine, with_entries, no_entry}
use Rattle.model.specs.Lookup.{free_entry, is_found}
use Rattle.model.specs.Backing.{add_entry}
use Rattle.backing.specs.BackingSteps.{released}

abbrev pub entry_row : ℕ → ℕ → ℕ → Entry
entry_row row page f = record { owner = row + 1; page = record { 0 = page }; frame = record { 0 = f } }

-- the old entry's frame is let go, or a row is free
abbrev pub EntryReady : Machine → Option ℕ → Type 0
EntryReady m (Some i) = (get_or m.entries i no_entry).frame.0 < 256
EntryReady m None = is_found (free_entry m) ≡ true

abbrev pub with_entry : Machine → ℕ → Entry → Machine
with_entry m i e = with_entries m (set m.entries i e)

abbrev pub re_entry_by : Machine → ℕ → ℕ → ℕ → Option ℕ → Machine
re_entry_by m row page f (Some i) = with_entry (released m (get_or m.entries i no_entry).frame.0) i (entry_row row page f)
re_entry_by m row page f None = add_entry m row page f
