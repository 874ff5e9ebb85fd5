-- The ways through the tests of one mapping: its flags, what an entry allows, what a range allows.
use Rattle.std.specs.Prelude.{Bool, ◌||◌, ℕ, eqb}
use Rattle.address.specs.Flags.{read_only}

-- a region's own flags, or those without WRITABLE
abbrev pub is_own : ℕ → ℕ → Bool
is_own own flags = eqb flags own || eqb flags (read_only own)
