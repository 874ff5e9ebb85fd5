-- What a loop over a list knows: what is left to look at gives the answer, for any function of the list; then for four such functions.
use Rattle.std.specs.Prelude.{◌≡◌, Bool, List, ℕ, ◌+◌, ◌≤◌, drop}
use Rattle.laws.specs.Tests.{all_rows}
use Rattle.laws.specs.Lists.{all, any, count}

-- a loop that has passed i rows of a list: what F says of the rest is the answer x
abbrev pub Remains : {A X : Type 0} → (List A → X) → List A → ℕ → X → Type 0
Remains F l i x = x ≡ F (drop i l)

-- ---- every row, with its number

abbrev pub Every : {A : Type 0} → (ℕ → A → Bool) → List A → ℕ → ℕ → Type 0
Every f l n i = (i ≤ n) × Remains (all_rows f i) l i (all_rows f 0 l)

-- ---- every row from k on

abbrev pub Rest : {A : Type 0} → (A → Bool) → List A → ℕ → ℕ → ℕ → Type 0
Rest f l n k i = (i ≤ n) × Remains (all f) l i (all f (drop k l))

-- ---- some row

abbrev pub Sought : {A : Type 0} → (A → Bool) → List A → ℕ → ℕ → Type 0
Sought f l n i = (i ≤ n) × Remains (any f) l i (any f l)

-- ---- how many rows: k of the first i

abbrev pub Counted : {A : Type 0} → (A → Bool) → List A → ℕ → ℕ → ℕ → Type 0
Counted f l n i k = (i ≤ n) × ((k ≤ i) × Remains (λ t. k + count f t) l i (count f l))
