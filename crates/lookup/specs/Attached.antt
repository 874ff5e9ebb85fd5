-- A process's attached regions, in list order: how many there are, which slot stands where, and the search for one at an address.
use Rattle.std.specs.Prelude.{Bool, ◌&&◌, ℕ}
use Rattle.model.specs.declared.Region.{Region}
use Rattle.model.specs.Lookup.{is_used, contains}

-- whether a slot is in use by a region that holds an address
abbrev pub used_at : ℕ → Region → Bool
used_at a r = is_used r && contains r a
