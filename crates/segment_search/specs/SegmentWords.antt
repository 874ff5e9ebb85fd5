-- A table of segments as words, two a row: start, length.
use Rattle.std.specs.Prelude.{List, [], ◌∷◌, ℕ, zero, suc, get_or, drop}
use Rattle.segment.specs.declared.Segment.{Segment}

-- the first n rows of a table of words
unfoldable pub table_of : List ℕ → ℕ → List Segment
table_of w zero = []
table_of w (suc n) = record { start = record { 0 = get_or w 0 0 }; len = get_or w 1 0 } ∷ table_of (drop 2 w) n
