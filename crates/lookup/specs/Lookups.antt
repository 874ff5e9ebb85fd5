-- What the look-ups look for, and the tables that they look through: processes, page entries, a process's slots.
use Rattle.std.specs.Prelude.{Bool, ◌&&◌, ℕ, eqb}
use Rattle.model.specs.declared.Entry.{Entry}

abbrev pub entry_of : ℕ → ℕ → Entry → Bool
entry_of owner page e = eqb e.owner owner && eqb e.page.0 page
