-- Bytes put into a list from a place on: the one way in which frames' bytes change.
use Rattle.std.specs.Prelude.{List, ◌++◌, ℕ, ◌+◌, length, take, drop}

-- the list with the bytes from `at` on replaced by new ones
unfoldable pub put_at : List ℕ → ℕ → List ℕ → List ℕ
put_at l at new = take at l ++ (new ++ drop (at + length new) l)
