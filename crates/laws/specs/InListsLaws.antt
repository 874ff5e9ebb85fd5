-- Laws of the small functions on lists (Lists, Tests): what is kept, found among others, counted up; every row, every two rows.
use Rattle.std.specs.Prelude.{◌≡◌, refl, ◌⊎◌, ◌≢◌, Bool, true, false, ◌||◌, not, cond, List, [], ◌∷◌, ℕ, zero, suc, ◌+◌, ◌≤◌, ◌<◌, length, get_or, eqb, ltb}
use Rattle.std.proofs.Common.{ap, sym, subst, ◌∙◌, inl, inr, true≢false, zero-le, suc-le-suc, le_of_suc-le-suc, not-suc-le-zero, arith, eqb-true, eq-eqb, ltb-true, ltb-false, ne_eqb}
use Rattle.std.proofs.lemmas.Bool.{false≢true, eqb-false, not-true}
use Rattle.std.proofs.Math.Decide.{ℕ_discrete}
use Rattle.laws.specs.Lists.{keep, any, among, up_from, first}
use Rattle.laws.specs.Tests.{Rows, Pairs}
use Rattle.laws.specs.In.{In, Once, Stands}
use Rattle.laws.specs.InLaws.{in_at, in_row}
use Rattle.laws.specs.ListsLaws.{keep_most}

-- ---- every row, every two rows

-- every row has it exactly if all that are in the list have
pub rows_in : {A : Type 0} (d : A) (l : List A) (P : A → Type 0) → Rows d l (λ i x. P x) → (x : A) → In x l → P x
rows_in d l P r x k = let s = in_row d x l k in subst P s.is (r s.row s.inside)

pub in_rows : {A : Type 0} (d : A) (l : List A) (P : A → Type 0) → ((x : A) → In x l → P x) → Rows d l (λ i x. P x)
in_rows d l P f i h = f (get_or l i d) (in_at d l i h)

-- every two of a list agree
module _ {A : Type 0} (d : A) (l : List A) (Q : A → A → Type 0) where
  pub pairs_in : Pairs d l (λ x. Unit {0}) Q → ((x : A) → Q x x) → ((x y : A) → Q x y → Q y x) → (x y : A) → In x l → In y l → Q x y
  pairs_in p same turn x y a b = at (in_row d x l a) (in_row d y l b)
    where
      at : Stands d x l → Stands d y l → Q x y
      at r s =
          subst (λ (z : A). Q z y) r.is (subst (λ (z : A). Q (get_or l r.row d) z) s.is (side (ltb r.row s.row) refl (ltb s.row r.row) refl))
        where
          side : (b : Bool) → ltb r.row s.row ≡ b → (c : Bool) → ltb s.row r.row ≡ c → Q (get_or l r.row d) (get_or l s.row d)
          side true e c f = p r.row s.row (ltb-true _ _ e) s.inside tt
          side false e true f = turn _ _ (p s.row r.row (ltb-true _ _ f) r.inside tt)
          side false e false f =
              let g = ltb-false r.row s.row e in
              let h = ltb-false s.row r.row f in
              let z : r.row ≡ s.row = omega arith in
              subst (λ (i : ℕ). Q (get_or l r.row d) (get_or l i d)) z (same _)

  pub in_pairs : ((x y : A) → In x l → In y l → Q x y) → Pairs d l (λ x. Unit {0}) Q
  in_pairs f i j h k u = f _ _ (in_at d l i (omega arith)) (in_at d l j k)

-- rows that differ two by two are a list without repeats
pub pairs_once : (l : List ℕ) → Pairs 0 l (λ s. Unit {0}) (λ s t. s ≢ t) → Once l
pairs_once [] p = tt
pairs_once (x ∷ l) p = (
  λ k. let r = in_row 0 x l k in p zero (suc r.row) (suc-le-suc zero-le) (suc-le-suc r.inside) tt (sym r.is),
  pairs_once l (λ i j h k u. p (suc i) (suc j) (suc-le-suc h) (suc-le-suc k) u),
)

pub once_pairs : (l : List ℕ) → Once l → Pairs 0 l (λ s. Unit {0}) (λ s t. s ≢ t)
once_pairs [] o i j h k u = absurd (not-suc-le-zero k)
once_pairs (x ∷ l) o zero zero h k u = absurd (not-suc-le-zero h)
once_pairs (x ∷ l) o zero (suc j) h k u = λ e. o.0 (subst (λ (y : ℕ). In y l) (sym e) (in_at 0 l j (le_of_suc-le-suc k)))
once_pairs (x ∷ l) o (suc i) zero h k u = absurd (not-suc-le-zero h)
once_pairs (x ∷ l) o (suc i) (suc j) h k u = once_pairs l o.1 i j (le_of_suc-le-suc h) (le_of_suc-le-suc k) u

-- ---- the first, and those from a number on

pub first_in : (d : ℕ) (l : List ℕ) → length l ≢ 0 → In (first d l) l
first_in d [] z = absurd (z refl)
first_in d (x ∷ l) z = inl refl

-- a, a + 1, .. are those from a on
pub in_up : (x a k : ℕ) → In x (up_from a k) → (a ≤ x) × (x < a + k)
unfolding up_from
in_up x a zero i = absurd i
in_up x a (suc k) (inl e) = (omega arith, omega arith)
in_up x a (suc k) (inr i) = let t = in_up x (a + 1) k i in let l = t.0 in let h = t.1 in (omega arith, omega arith)

pub up_in : (x a k : ℕ) → a ≤ x → x < a + k → In x (up_from a k)
unfolding up_from
up_in x a zero h l = absurd (omega arith)
up_in x a (suc k) h l = go (ℕ_discrete x a) (λ z. up_in x (a + 1) k (omega (arith, z)) (omega arith))
  where
    go : Dec (x ≡ a) → (x ≢ a → In x (up_from (a + 1) k)) → (x ≡ a) ⊎ In x (up_from (a + 1) k)
    go (yes z) more = inl z
    go (no z) more = inr (more z)

pub once_up : (a k : ℕ) → Once (up_from a k)
unfolding up_from
once_up a zero = tt
once_up a (suc k) = (λ i. let l = (in_up a (a + 1) k i).0 in omega arith, once_up (a + 1) k)

-- ---- any, among

pub any_false : {A : Type 0} (f : A → Bool) (x : A) (l : List A) → any f l ≡ false → In x l → f x ≡ false
unfolding any
any_false f x [] e i = absurd i
any_false f x (y ∷ l) e i = go (f y) refl e i (any_false f x l)
  where
    go : (b : Bool) → f y ≡ b → (b || any f l) ≡ false → In x (y ∷ l) → (any f l ≡ false → In x l → f x ≡ false) → f x ≡ false
    go true p q j more = absurd (true≢false q)
    go false p q (inl j) more = ap f j ∙ p
    go false p q (inr j) more = more q j

-- the test tells membership
pub among_in : (s : ℕ) (l : List ℕ) → among s l ≡ true → In s l
unfolding any
among_in s [] e = absurd (false≢true e)
among_in s (t ∷ l) e = go (eqb s t) refl e (among_in s l)
  where
    go : (b : Bool) → eqb s t ≡ b → (b || any (eqb s) l) ≡ true → (among s l ≡ true → In s l) → (s ≡ t) ⊎ In s l
    go true p q more = inl (eqb-true s t p)
    go false p q more = inr (more q)

pub in_among : (s : ℕ) (l : List ℕ) → In s l → among s l ≡ true
unfolding any
in_among s [] k = absurd k
in_among s (t ∷ l) (inl e) = rw (eq-eqb s t e) refl
in_among s (t ∷ l) (inr h) = or_right (eqb s t) (in_among s l h)
  where
    or_right : (a : Bool) {b : Bool} → b ≡ true → (a || b) ≡ true
    or_right true k = refl
    or_right false k = k

-- ---- those that pass a test

-- what is kept was there and passes
pub in_keep : {A : Type 0} (f : A → Bool) (x : A) (l : List A) → In x (keep f l) → In x l × (f x ≡ true)
unfolding keep
in_keep f x [] k = absurd k
in_keep f x (y ∷ l) k = go (f y) refl k (in_keep f x l)
  where
    go : (b : Bool) → f y ≡ b → In x (cond b (y ∷ keep f l) (keep f l)) → (In x (keep f l) → In x l × (f x ≡ true)) → In x (y ∷ l) × (f x ≡ true)
    go true p (inl e) more = (inl e, ap f e ∙ p)
    go true p (inr h) more = let r = more h in (inr r.0, r.1)
    go false p h more = let r = more h in (inr r.0, r.1)

pub keep_in : {A : Type 0} (f : A → Bool) (x : A) (l : List A) → In x l → f x ≡ true → In x (keep f l)
unfolding keep
keep_in f x [] k e = absurd k
keep_in f x (y ∷ l) k e = go (f y) refl k (λ h. keep_in f x l h e)
  where
    go : (b : Bool) → f y ≡ b → In x (y ∷ l) → (In x l → In x (keep f l)) → In x (cond b (y ∷ keep f l) (keep f l))
    go true p (inl q) more = inl q
    go true p (inr h) more = inr (more h)
    go false p (inl q) more = absurd (true≢false (sym e ∙ ap f q ∙ p))
    go false p (inr h) more = more h

-- none passes
pub keep_none : (f : ℕ → Bool) (l : List ℕ) → ((t : ℕ) → In t l → f t ≡ true → ⊥) → keep f l ≡ []
unfolding keep
keep_none f [] n = refl
keep_none f (x ∷ l) n = go (f x) refl (keep_none f l (λ t k. n t (inr k)))
  where
    go : (b : Bool) → f x ≡ b → keep f l ≡ [] → cond b (x ∷ keep f l) (keep f l) ≡ []
    go true p q = absurd (n x (inl refl) p)
    go false p q = q

pub once_keep : (f : ℕ → Bool) (l : List ℕ) → Once l → Once (keep f l)
unfolding keep
once_keep f [] o = tt
once_keep f (x ∷ l) o = go (f x) (once_keep f l o.1)
  where
    go : (b : Bool) → Once (keep f l) → Once (cond b (x ∷ keep f l) (keep f l))
    go true k = (λ i. o.0 (in_keep f x l i).0, k)
    go false k = k

-- ---- all but one number

abbrev pub without : ℕ → List ℕ → List ℕ
without x l = keep (λ y. not (eqb y x)) l

pub in_without : (x y : ℕ) (l : List ℕ) → In y (without x l) → In y l × (y ≢ x)
in_without x y l i = let t = in_keep (λ z. not (eqb z x)) y l i in (t.0, eqb-false y x (not-true _ t.1))

pub without_in : (x y : ℕ) (l : List ℕ) → In y l → y ≢ x → In y (without x l)
without_in x y l i n = keep_in (λ z. not (eqb z x)) y l i (rw (ne_eqb y x n) refl)

pub length_without : (x : ℕ) (l : List ℕ) → length (without x l) ≤ length l
length_without x l = keep_most (λ y. not (eqb y x)) l

pub once_without : (x : ℕ) (l : List ℕ) → Once l → Once (without x l)
once_without x l = once_keep (λ y. not (eqb y x)) l

-- one that was there makes it shorter
pub without_less : (x : ℕ) (l : List ℕ) → In x l → suc (length (without x l)) ≤ length l
unfolding keep
without_less x [] i = absurd i
without_less x (y ∷ l) i = go (eqb y x) refl i (without_less x l)
  where
    go : (b : Bool) → eqb y x ≡ b → In x (y ∷ l) → (In x l → suc (length (without x l)) ≤ length l)
        → suc (length (cond (not b) (y ∷ without x l) (without x l))) ≤ suc (length l)
    go true e j more = suc-le-suc (length_without x l)
    go false e (inl q) more = absurd (eqb-false y x e (sym q))
    go false e (inr j) more = suc-le-suc (more j)

-- by one at most
pub keep_one : (x : ℕ) (l : List ℕ) → Once l → length l ≤ suc (length (without x l))
unfolding keep
keep_one x [] o = zero-le
keep_one x (y ∷ l) o = go (eqb y x) refl (keep_one x l o.1)
  where
    all : (k : List ℕ) → (In x k → ⊥) → length k ≤ length (without x k)
    all [] n = zero-le
    all (z ∷ k) n = rw (ne_eqb z x (λ e. n (inl (sym e)))) (suc-le-suc (all k (λ i. n (inr i))))

    go : (b : Bool) → eqb y x ≡ b → length l ≤ suc (length (without x l)) → suc (length l) ≤ suc (length (cond (not b) (y ∷ without x l) (without x l)))
    go true e h = suc-le-suc (all l (λ i. o.0 (subst (λ (z : ℕ). In z l) (sym (eqb-true y x e)) i)))
    go false e h = suc-le-suc h

-- ---- lists without repeats are no longer than ..

-- .. the numbers below n
pub few_below : (n : ℕ) (l : List ℕ) → Once l → ((x : ℕ) → In x l → x < n) → length l ≤ n
few_below zero [] o h = zero-le
few_below zero (x ∷ l) o h = absurd (not-suc-le-zero (h x (inl refl)))
few_below (suc n) l o h =
    let k = few_below n (without n l) (once_without n l o) (λ x i. let t = in_without n x l i in let a = h x t.0 in let b = t.1 in omega (arith, b)) in
    let one = keep_one n l o in
    omega arith

-- .. a list that has all of theirs
pub subset_most : (a b : List ℕ) → Once a → ((x : ℕ) → In x a → In x b) → length a ≤ length b
subset_most [] b o h = zero-le
subset_most (x ∷ a) b o h =
    let k = subset_most a (without x b) o.1 (λ y i. without_in x y b (h y (inr i)) (λ e. o.0 (subst (λ (z : ℕ). In z a) e i))) in
    let l = without_less x b (h x (inl refl)) in
    omega arith
