-- Laws of membership in a list, and of lists in which nothing stands twice.
use Rattle.std.specs.Prelude.{◌≡◌, refl, ◌⊎◌, List, [], ◌∷◌, ◌++◌, map, ℕ, zero, suc, ◌<◌, length, get_or}
use Rattle.std.proofs.Common.{ap, sym, subst, inl, inr, append-nil, zero-le, suc-le-suc, le_of_suc-le-suc, not-suc-le-zero}
use Rattle.laws.specs.In.{In, Once, Stands}

-- the rows of a list are in it
pub in_at : {A : Type 0} (d : A) (l : List A) (i : ℕ) → i < length l → In (get_or l i d) l
in_at d [] i h = absurd (not-suc-le-zero h)
in_at d (x ∷ l) zero h = inl refl
in_at d (x ∷ l) (suc i) h = inr (in_at d l i (le_of_suc-le-suc h))

-- and what is in it stands at a row
pub in_row : {A : Type 0} (d x : A) (l : List A) → In x l → Stands d x l
in_row d x [] k = absurd k
in_row d x (y ∷ l) (inl e) = record { row = 0; inside = suc-le-suc zero-le; is = sym e }
in_row d x (y ∷ l) (inr k) = let r = in_row d x l k in record { row = suc r.row; inside = suc-le-suc r.inside; is = r.is }

-- two lists one after the other
pub in_left : {A : Type 0} (x : A) (l k : List A) → In x l → In x (l ++ k)
in_left x [] k h = absurd h
in_left x (y ∷ l) k (inl e) = inl e
in_left x (y ∷ l) k (inr h) = inr (in_left x l k h)

pub in_right : {A : Type 0} (x : A) (l k : List A) → In x k → In x (l ++ k)
in_right x [] k h = h
in_right x (y ∷ l) k h = inr (in_right x l k h)

pub in_either : {A : Type 0} (x : A) (l k : List A) → In x (l ++ k) → In x l ⊎ In x k
in_either x [] k h = inr h
in_either x (y ∷ l) k (inl e) = inl (inl e)
in_either x (y ∷ l) k (inr h) = go (in_either x l k h)
  where
    go : In x l ⊎ In x k → In x (y ∷ l) ⊎ In x k
    go (inl a) = inl (inr a)
    go (inr b) = inr b

-- a list mapped
pub in_map : {A B : Type 0} (g : A → B) (y : B) (l : List A) → In y (map g l) → (x : A) × (In x l × (y ≡ g x))
in_map g y [] k = absurd k
in_map g y (x ∷ l) (inl e) = (x, (inl refl, e))
in_map g y (x ∷ l) (inr h) = let r = in_map g y l h in (r.0, (inr r.1.0, r.1.1))

pub map_in : {A B : Type 0} (g : A → B) (x : A) (l : List A) → In x l → In (g x) (map g l)
map_in g x [] k = absurd k
map_in g x (y ∷ l) (inl e) = inl (ap g e)
map_in g x (y ∷ l) (inr h) = inr (map_in g x l h)

-- one more in the midst
pub once_insert : (t : ℕ) (a b : List ℕ) → Once (a ++ b) → (In t (a ++ b) → ⊥) → Once (a ++ (t ∷ b))
once_insert t [] b o n = (n, o)
once_insert t (x ∷ a) b o n = (λ i. go (in_either x a (t ∷ b) i), once_insert t a b o.1 (λ i. n (inr i)))
  where
    go : In x a ⊎ In x (t ∷ b) → ⊥
    go (inl i) = o.0 (in_left x a b i)
    go (inr (inl e)) = n (inl (sym e))
    go (inr (inr i)) = o.0 (in_right x a b i)

-- one more at the end
pub once_last : (x : ℕ) (l : List ℕ) → Once l → (In x l → ⊥) → Once (l ++ (x ∷ []))
once_last x l o n = once_insert x l [] (subst Once (sym (append-nil l)) o) (λ i. n (subst (λ k. In x k) (append-nil l) i))

-- two lists without a common number
pub once_join : (a b : List ℕ) → Once a → Once b → ((x : ℕ) → In x a → In x b → ⊥) → Once (a ++ b)
once_join [] b p q n = q
once_join (x ∷ a) b p q n = (λ i. go (in_either x a b i), once_join a b p.1 q (λ y i. n y (inr i)))
  where
    go : In x a ⊎ In x b → ⊥
    go (inl i) = p.0 i
    go (inr i) = n x (inl refl) i

pub in_later : {A : Type 0} (x y z : A) (l : List A) → (x ≡ y) ⊎ In x l → (x ≡ y) ⊎ In x (z ∷ l)
in_later x y z l (inl e) = inl e
in_later x y z l (inr i) = inr (inr i)
