-- What a fault's way needs, test by test (RULES E14 to E16, E21).
use Rattle.std.specs.Prelude.{Bool, ◌&&◌, not, ℕ}
use Rattle.model.specs.declared.Backed.{Backed}
use Rattle.model.specs.Machine.{Machine, mapped_of}
use Rattle.model.specs.Paging.{translate}
use Rattle.model.specs.Fault.{no_room, no_entry_left, is_mapped, by_entry}

abbrev pub unmapped_full : Machine → ℕ → ℕ → Bool
unmapped_full m p page = not (is_mapped (translate (mapped_of m p) page)) && no_room m p

abbrev pub entry_full : Machine → Backed → Bool
entry_full m b = not (by_entry b) && no_entry_left m
