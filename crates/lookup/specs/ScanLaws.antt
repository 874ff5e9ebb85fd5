-- A search through a list's rows, as what a loop knows once it has passed i rows.
use Rattle.std.specs.Prelude.{◌≡◌, Bool, true, false, cond, List, ℕ, ◌+◌, ◌≤◌, ◌<◌, length, get_or, Option, Some, None}
use Rattle.std.proofs.Math.Path.{ap}
use native.Mathlib.Omega.{arith}
use Rattle.laws.specs.Loops.{Remains}
use Rattle.laws.specs.LoopLaws.{loop_found, loop_more, loop_none}
use Rattle.model.specs.Lookup.{first_row}

-- a search that has passed i of n rows has only the rest to look at
abbrev pub Passed : {A : Type 0} → (A → Bool) → List A → ℕ → ℕ → Type 0
Passed f l n i = (i ≤ n) × Remains (λ t. first_row f t i) l i (first_row f l 0)

module _ {A : Type 0} (f : A → Bool) (l : List A) (n : ℕ) (sized : length l ≡ n) (i : ℕ) (s : Passed f l n i) where
  abbrev from : List A → Option ℕ
  from t = first_row f t i

  -- row i is the first, or the rows past it say
  abbrev by : Bool → List A → Option ℕ
  by b t = cond b (Some i) (first_row f t (i + 1))

  -- the row at i passes the test: it is the first that does
  pub pass_found : i < n → (d a : A) → a ≡ get_or l i d → f a ≡ true → Some i ≡ first_row f l 0
  unfolding first_row
  pass_found h d a e p = loop_found from l i (first_row f l 0) s.1 (rw sized h) d a e (Some i) (λ t. ap (λ (b : Bool). by b t) p)

  -- it does not: go on
  pub pass_more : i < n → (d a : A) → a ≡ get_or l i d → f a ≡ false → Passed f l n (i + 1)
  unfolding first_row
  pass_more h d a e p = (omega arith, loop_more from l i (first_row f l 0) s.1 (rw sized h) d a e (λ t. first_row f t (i + 1)) (λ t. ap (λ (b : Bool). by b t) p))

  -- all are passed: there is none
  pub pass_all : n ≤ i → None ≡ first_row f l 0
  unfolding first_row
  pass_all h = loop_none from l i (first_row f l 0) s.1 (rw sized h)
