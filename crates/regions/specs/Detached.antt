-- A slot taken out of list order: those that are kept are put one after the other, and zeros after them.
use Rattle.std.specs.Prelude.{Bool, not, ℕ, eqb}

-- whether a slot is not the one that leaves
abbrev pub other : ℕ → ℕ → Bool
other slot t = not (eqb t slot)
