-- The first c rows of a list, where c may be more than there are: the rows, and those past them.
use Rattle.std.specs.Prelude.{◌≡◌, refl, List, [], ◌∷◌, ℕ, zero, suc, ◌<◌, length, get_or, take, drop}
use Rattle.std.proofs.Common.{arith, length-take, get_or-take}

module _ {A : Type 0} where
  pub taken_at : (c : ℕ) (l : List A) (i : ℕ) (d : A) → i < length (take c l) → get_or (take c l) i d ≡ get_or l i d
  taken_at c l i d h = get_or-take c l i d below
    where
      below : i < c
      below = let e = length-take c l in omega arith

  pub past_taken : (c : ℕ) (l : List A) → drop (length (take c l)) l ≡ drop c l
  past_taken zero l = refl
  past_taken (suc c) [] = refl
  past_taken (suc c) (x ∷ l) = past_taken c l
