-- Laws of `count`: two lists one after the other, one row replaced, more or fewer that pass.
use Rattle.std.specs.Prelude.{◌≡◌, Bool, ◌||◌, length, get_or, set}
use Rattle.std.proofs.Math.Path.{refl}
use Rattle.std.proofs.Common.{ap, subst, le_of_suc-le-suc, not-suc-le-zero, eqb-true}
use Rattle.std.proofs.Math.Bool.{true, false, cond}
use Rattle.std.proofs.lemmas.Bool.{false≢true}
use mathlib.Core.List.{List, [], ◌∷◌, ◌++◌}
use Prim.Native.Nat.{ℕ, zero, suc, ◌+◌, ◌≤◌, ◌<◌, zero-le}
use native.Mathlib.Omega.{arith}
use Rattle.laws.specs.Lists.{count, any, among}
use Rattle.std.proofs.Math.Dec.{eqb}
use Rattle.laws.specs.BoolLaws.{clash}

-- a row that passed is one that does not
pub count_put : {A : Type 0} (f : A → Bool) (d : A) (l : List A) (i : ℕ) (x : A) → i < length l → f (get_or l i d) ≡ true → f x ≡ false
    → count f (set l i x) + 1 ≡ count f l
unfolding count
count_put f d [] i x h p q = absurd (not-suc-le-zero h)
count_put f d (y ∷ l) zero x h p q = rw (p, q) refl
count_put f d (y ∷ l) (suc i) x h p q = go (f y) (count_put f d l i x (le_of_suc-le-suc h) p q)
  where
    go : (b : Bool) → count f (set l i x) + 1 ≡ count f l → cond b (count f (set l i x) + 1) (count f (set l i x)) + 1 ≡ cond b (count f l + 1) (count f l)
    go true e = ap (λ (n : ℕ). n + 1) e
    go false e = e

-- a row as good as the one before
pub count_still : {A : Type 0} (f : A → Bool) (d : A) (l : List A) (i : ℕ) (x : A) → f x ≡ f (get_or l i d) → count f (set l i x) ≡ count f l
unfolding count
count_still f d [] i x e = refl
count_still f d (y ∷ l) zero x e = ap (λ (b : Bool). cond b (count f l + 1) (count f l)) e
count_still f d (y ∷ l) (suc i) x e = ap (λ (n : ℕ). cond (f y) (n + 1) n) (count_still f d l i x e)

pub count_append : {A : Type 0} (p : A → Bool) (l k : List A) → count p (l ++ k) ≡ count p l + count p k
unfolding count
count_append p [] k = omega arith
count_append p (x ∷ l) k = go (p x) (count_append p l k)
  where
    go : (b : Bool) → count p (l ++ k) ≡ count p l + count p k → cond b (count p (l ++ k) + 1) (count p (l ++ k)) ≡ cond b (count p l + 1) (count p l) + count p k
    go true e = omega arith
    go false e = e

pub count_most : {A : Type 0} (f : A → Bool) (l : List A) → count f l ≤ length l
unfolding count
count_most f [] = zero-le
count_most f (x ∷ l) = go (f x) (count_most f l)
  where
    go : (b : Bool) → count f l ≤ length l → cond b (count f l + 1) (count f l) ≤ suc (length l)
    go true h = omega arith
    go false h = omega arith

pub count_least : (f : ℕ → Bool) (l : List ℕ) (s : ℕ) → among s l ≡ true → f s ≡ true → 1 ≤ count f l
unfolding count any
count_least f [] s h p = absurd (false≢true h)
count_least f (t ∷ l) s h p = go (f t) refl (eqb s t) refl h (count_least f l s)
  where
    go : (b : Bool) → f t ≡ b → (c : Bool) → eqb s t ≡ c → (c || any (eqb s) l) ≡ true → (among s l ≡ true → f s ≡ true → 1 ≤ count f l) → 1 ≤ cond b (count f l + 1) (count f l)
    go true q c i k ih = omega arith
    go false q true i k ih = clash (subst (λ (x : ℕ). f x ≡ true) (eqb-true s t i) p) q
    go false q false i k ih = ih k p

-- no fewer pass a test that passes wherever another does
module _ {A : Type 0} (f g : A → Bool) (more : (s : A) → f s ≡ true → g s ≡ true) where
  pub count_more : (l : List A) → count f l ≤ count g l
  unfolding count
  count_more [] = zero-le
  count_more (t ∷ l) = go (f t) refl (g t) refl (count_more l)
    where
      go : (b : Bool) → f t ≡ b → (c : Bool) → g t ≡ c → count f l ≤ count g l → cond b (count f l + 1) (count f l) ≤ cond c (count g l + 1) (count g l)
      go true p true q h = omega arith
      go true p false q h = clash (more t p) q
      go false p true q h = omega arith
      go false p false q h = h

-- fewer where one passes the second test and not the first
module _ (f g : ℕ → Bool) (more : (s : ℕ) → f s ≡ true → g s ≡ true) where
  pub count_fewer : (l : List ℕ) (s : ℕ) → among s l ≡ true → g s ≡ true → f s ≡ false → count f l < count g l
  unfolding count any
  count_fewer [] s h p q = absurd (false≢true h)
  count_fewer (t ∷ l) s h p q = go (f t) refl (g t) refl (eqb s t) refl h (count_more f g more l) (count_fewer l s)
    where
      go : (b : Bool) → f t ≡ b → (c : Bool) → g t ≡ c → (d : Bool) → eqb s t ≡ d → (d || any (eqb s) l) ≡ true → count f l ≤ count g l → (among s l ≡ true → g s ≡ true → f s ≡ false → count f l < count g l) → cond b (count f l + 1) (count f l) < cond c (count g l + 1) (count g l)
      go true i true j true k h m ih = clash i (subst (λ (x : ℕ). f x ≡ false) (eqb-true s t k) q)
      go true i true j false k h m ih = let x = ih h p q in omega arith
      go true i false j d k h m ih = clash (more t i) j
      go false i true j d k h m ih = omega arith
      go false i false j true k h m ih = clash (subst (λ (x : ℕ). g x ≡ true) (eqb-true s t k) p) j
      go false i false j false k h m ih = ih h p q
