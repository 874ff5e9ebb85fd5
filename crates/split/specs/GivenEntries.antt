-- Page entries given to another row, one after the other.
use Rattle.std.specs.Prelude.{◌&&◌, cond, ℕ, eqb, leb}
use Rattle.model.specs.declared.Entry.{Entry}

-- an entry, given to another owner where it is one owner's, from a page on
abbrev pub given : ℕ → ℕ → ℕ → Entry → Entry
given owner page new e = cond (eqb e.owner owner && leb page e.page.0) (record { owner = new; page = e.page; frame = e.frame }) e
