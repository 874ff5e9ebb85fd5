-- A table as the list of its rows: row i is what a function says of i. Laws that hold for any row.
use Rattle.std.specs.Prelude.{List, [], ◌∷◌, ℕ, zero, suc}

unfoldable pub rows {ℓ} : {A : Type ℓ} → (ℕ → A) → ℕ → List A
rows f zero = []
rows f (suc n) = f zero ∷ rows (λ i. f (suc i)) n
