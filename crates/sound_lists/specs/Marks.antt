-- Marks of the slots that a list names: after i places they are of the first i, so a slot has one already exactly if it is listed before.
use Rattle.std.specs.Prelude.{Bool, not, List, ℕ, get_or, eqb}

abbrev pub marked : List ℕ → ℕ → Bool
marked marks s = not (eqb (get_or marks s 0) 0)
