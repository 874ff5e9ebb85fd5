-- Tests that tell propositions: comparisons, connectives, every row of a table, every two rows.
use Rattle.std.specs.Prelude.{Bool, true, not, ◌&&◌, ◌||◌, List, [], ◌∷◌, ℕ, suc, ◌+◌, ◌<◌, length, get_or, drop}
use Rattle.laws.specs.Lists.{all}

-- a test of every row, with its number; the list's first row is row i
unfoldable pub all_rows : {A : Type 0} → (ℕ → A → Bool) → ℕ → List A → Bool
all_rows f i [] = true
all_rows f i (x ∷ l) = f i x && all_rows f (suc i) l

-- "every row of a table": d stands past its end
abbrev pub Rows : {A : Type 0} → A → List A → (ℕ → A → Type 0) → Type 0
Rows d l P = (i : ℕ) → i < length l → P i (get_or l i d)

-- a test of every two rows, the first of which is of some kind
unfoldable pub all_pairs : {A : Type 0} → (A → Bool) → (A → A → Bool) → List A → Bool
all_pairs u f [] = true
all_pairs u f (x ∷ l) = (not (u x) || all (f x) l) && all_pairs u f l

-- what `allPairs` asks of row i: a test of it with every later row
abbrev pub later : {A : Type 0} → (A → Bool) → (A → A → Bool) → List A → ℕ → A → Bool
later u f l i x = not (u x) || all (f x) (drop (i + 1) l)

-- "every two rows of a table"
abbrev pub Pairs : {A : Type 0} → A → List A → (A → Type 0) → (A → A → Type 0) → Type 0
Pairs d l U Q = (i j : ℕ) → i < j → j < length l → U (get_or l i d) → Q (get_or l i d) (get_or l j d)
