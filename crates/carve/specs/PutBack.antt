-- Slots put back, one after the other.
use Rattle.std.specs.Prelude.{List, [], ◌∷◌, ℕ, ◌-◌, take, drop}
use Rattle.model.specs.Machine.{Machine}
use Rattle.model.specs.Carve.{push}
use Rattle.split.specs.ListRoom.{Room}

-- the elements from one place up to another
abbrev pub slice : List ℕ → ℕ → ℕ → List ℕ
slice out i k = take (k - i) (drop i out)

unfoldable pub push_all : ℕ → List ℕ → Machine → Machine
push_all p [] m = m
push_all p (s ∷ l) m = push_all p l (push m p s)

-- for each of them the list has room
unfoldable pub Rooms : ℕ → List ℕ → Machine → Type 0
Rooms p [] m = Unit {0}
Rooms p (s ∷ l) m = Room m p × Rooms p l (push m p s)
