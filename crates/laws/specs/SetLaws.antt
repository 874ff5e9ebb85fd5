-- A list with one row replaced: what each row is then, and a row replaced twice.
use Rattle.std.specs.Prelude.{◌≡◌, refl, ◌≢◌, Bool, true, false, List, [], ◌∷◌, ℕ, zero, suc, ◌<◌, length, get_or, set, ltb}
use Rattle.std.proofs.Common.{ap, sym, subst, get_or-set_same, get_or-set_other, ltb-true, ltb-false}
use Rattle.std.proofs.Math.Decide.{ℕ_discrete}
use Rattle.std.proofs.Math.ListN.{get_or-eq_default}

-- each row is the new one or one from before
pub each_row : {A : Type 0} (l : List A) (i : ℕ) (x d : A) → i < length l → (P : ℕ → A → Type 0) → P i x → ((j : ℕ) → j ≢ i → P j (get_or l j d)) → (j : ℕ)
    → P j (get_or (set l i x) j d)
each_row {A} l i x d inside P here else j = go (ℕ_discrete j i)
  where
    go : Dec (j ≡ i) → P j (get_or (set l i x) j d)
    go (yes z) = subst (λ (k : ℕ). P k (get_or (set l i x) k d)) (sym z) (subst (P i) (sym (get_or-set_same l i x d inside)) here)
    go (no z) = subst (P j) (sym (get_or-set_other l i j x d z)) (else j z)

-- a row changed and changed again is changed at once
pub set_twice : {A : Type 0} (d : A) (f g h : A → A) → ((x : A) → g (f x) ≡ h x) → (l : List A) (i : ℕ)
    → set (set l i (f (get_or l i d))) i (g (get_or (set l i (f (get_or l i d))) i d)) ≡ set l i (h (get_or l i d))
set_twice d f g h e [] i = refl
set_twice d f g h e (x ∷ l) zero = ap (λ y. y ∷ l) (e x)
set_twice d f g h e (x ∷ l) (suc i) = ap (λ k. x ∷ k) (set_twice d f g h e l i)

-- a row that is not the free one is there
pub row_there : {A : Type 0} (l : List A) (d : A) (i : ℕ) → (get_or l i d ≡ d → ⊥) → i < length l
row_there l d i h = go (ltb i (length l)) refl
  where
    go : (b : Bool) → ltb i (length l) ≡ b → i < length l
    go true e = ltb-true i (length l) e
    go false e = absurd (h (get_or-eq_default l d {n = i} (ltb-false i (length l) e)))
