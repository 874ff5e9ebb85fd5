-- Laws of `Tests`: tests that tell propositions: comparisons, connectives, every row of a table, every two rows; and the same test in other words.
use Rattle.std.specs.Prelude.{◌≡◌, ◌⊎◌, Bool, true, false, not, ◌&&◌, ◌||◌, cond, ℕ, zero, suc, ◌+◌, ◌≤◌, ◌<◌, length, get_or, eqb, ltb, leb}
use Rattle.std.proofs.Math.Path.{refl, ap}
use Rattle.std.proofs.Common.{sym, subst, ◌∙◌, inl, inr, true≢false, zero-le, suc-le-suc, le_of_suc-le-suc, not-suc-le-zero, arith, add-one, drop-drop, ltb-true, leb-true, eqb-true, lt-ltb, le-leb, eq-eqb}
use Rattle.std.proofs.lemmas.Bool.{false≢true}
use mathlib.Core.List.{List, [], ◌∷◌, map}
use Rattle.std.proofs.Math.ListN.{drop}
use Rattle.laws.specs.Tells.{Tells}
use Rattle.laws.specs.TellsLaws.{tells_of, tells_both}
use Rattle.laws.specs.Lists.{all, keep}
use Rattle.laws.specs.Tests.{all_rows, Rows, all_pairs, Pairs, later}

pub tells_eq : (a b : ℕ) → Tells (eqb a b) (a ≡ b)
tells_eq a b = tells_of (eqb a b) (eqb-true a b) (eq-eqb a b)

pub tells_le : (a b : ℕ) → Tells (leb a b) (a ≤ b)
tells_le a b = tells_of (leb a b) (leb-true a b) (le-leb a b)

pub tells_lt : (a b : ℕ) → Tells (ltb a b) (a < b)
tells_lt a b = tells_of (ltb a b) (ltb-true a b) (lt-ltb a b)

pub tells_bool : (b : Bool) → Tells b (b ≡ true)
tells_bool b = tells_of b (λ e. e) (λ e. e)

pub tells_not : {a : Bool} {P : Type 0} → Tells a P → Tells (not a) (P → ⊥)
tells_not {a = true} t = record { yes = λ e. absurd (false≢true e); no = λ e n. n (t.yes refl) }
tells_not {a = false} t = record { yes = λ e. t.no refl; no = λ e. absurd (true≢false e) }

pub tells_or : {a b : Bool} {P Q : Type 0} → Tells a P → Tells b Q → Tells (a || b) (P ⊎ Q)
tells_or {a = true} s t = record { yes = λ e. inl (s.yes refl); no = λ e. absurd (true≢false e) }
tells_or {a = false} s t = record { yes = λ e. inr (t.yes e); no = λ e p. neither (s.no refl) (t.no e) p }
  where
    neither : {P Q : Type 0} → (P → ⊥) → (Q → ⊥) → P ⊎ Q → ⊥
    neither f g (inl p) = f p
    neither f g (inr q) = g q

-- Q wherever P is
pub tells_if : {a b : Bool} {P Q : Type 0} → Tells a P → Tells b Q → Tells (not a || b) (P → Q)
tells_if {a = true} s t = record { yes = λ e p. t.yes e; no = λ e f. t.no e (f (s.yes refl)) }
tells_if {a = false} s t = record { yes = λ e p. absurd (s.no refl p); no = λ e. absurd (true≢false e) }

-- Q wherever P is not
pub tells_unless : {a b : Bool} {P Q : Type 0} → Tells a P → Tells b Q → Tells (a || b) ((P → ⊥) → Q)
tells_unless {a = true} s t = record { yes = λ e n. absurd (n (s.yes refl)); no = λ e. absurd (true≢false e) }
tells_unless {a = false} s t = record { yes = λ e n. t.yes e; no = λ e f. t.no e (f (s.no refl)) }

-- the same proposition in other words
pub tells_as : {b : Bool} {P Q : Type 0} → (P → Q) → (Q → P) → Tells b P → Tells b Q
tells_as f g t = record { yes = λ e. f (t.yes e); no = λ e q. t.no e (g q) }

-- all rows of a table pass a test exactly if every row has what it tells
pub tells_rows_from : {A : Type 0} (d : A) (f : ℕ → A → Bool) (P : ℕ → A → Type 0) → ((i : ℕ) (x : A) → Tells (f i x) (P i x)) → (k : ℕ) (l : List A) → Tells (all_rows f k l) ((i : ℕ) → i < length l → P (i + k) (get_or l i d))
unfolding all_rows
tells_rows_from d f P t k [] = record { yes = λ e i h. absurd (not-suc-le-zero h); no = λ e. absurd (true≢false e) }
tells_rows_from d f P t k (x ∷ l) = tells_as join part (tells_both (t k x) (tells_rows_from d f P t (suc k) l))
  where
    shift : (i : ℕ) → i + suc k ≡ suc i + k
    shift i = omega arith

    join : (P k x × ((i : ℕ) → i < length l → P (i + suc k) (get_or l i d))) → (i : ℕ) → i < length (x ∷ l) → P (i + k) (get_or (x ∷ l) i d)
    join p zero h = subst (λ (n : ℕ). P n x) (omega arith) p.0
    join p (suc i) h = subst (λ (n : ℕ). P n (get_or l i d)) (shift i) (p.1 i (le_of_suc-le-suc h))

    part : ((i : ℕ) → i < length (x ∷ l) → P (i + k) (get_or (x ∷ l) i d)) → P k x × ((i : ℕ) → i < length l → P (i + suc k) (get_or l i d))
    part g = (subst (λ (n : ℕ). P n x) (omega arith) (g zero (suc-le-suc zero-le)), λ i h. subst (λ (n : ℕ). P n (get_or l i d)) (sym (shift i)) (g (suc i) (suc-le-suc h)))

pub tells_rows : {A : Type 0} (d : A) (f : ℕ → A → Bool) (P : ℕ → A → Type 0) → ((i : ℕ) (x : A) → Tells (f i x) (P i x)) → (l : List A) → Tells (all_rows f 0 l) (Rows d l P)
tells_rows d f P t l = tells_as (λ g i h. subst (λ (n : ℕ). P n (get_or l i d)) (omega arith) (g i h)) (λ g i h. subst (λ (n : ℕ). P n (get_or l i d)) (omega arith) (g i h)) (tells_rows_from d f P t 0 l)

pub tells_all : {A : Type 0} (d : A) (f : A → Bool) (P : A → Type 0) → ((x : A) → Tells (f x) (P x)) → (l : List A) → Tells (all f l) ((i : ℕ) → i < length l → P (get_or l i d))
unfolding all
tells_all d f P t [] = record { yes = λ e i h. absurd (not-suc-le-zero h); no = λ e. absurd (true≢false e) }
tells_all d f P t (x ∷ l) = tells_as join (λ g. (g zero (suc-le-suc zero-le), λ i h. g (suc i) (suc-le-suc h))) (tells_both (t x) (tells_all d f P t l))
  where
    join : (P x × ((i : ℕ) → i < length l → P (get_or l i d))) → (i : ℕ) → i < length (x ∷ l) → P (get_or (x ∷ l) i d)
    join p zero h = p.0
    join p (suc i) h = p.1 i (le_of_suc-le-suc h)

pub tells_pairs : {A : Type 0} (d : A) (u : A → Bool) (U : A → Type 0) (f : A → A → Bool) (Q : A → A → Type 0) → ((x : A) → Tells (u x) (U x)) → ((x y : A) → Tells (f x y) (Q x y)) → (l : List A) → Tells (all_pairs u f l) (Pairs d l U Q)
unfolding all_pairs
tells_pairs d u U f Q s t [] = record { yes = λ e i j h k. absurd (not-suc-le-zero k); no = λ e. absurd (true≢false e) }
tells_pairs d u U f Q s t (x ∷ l) = tells_as join part (tells_both (tells_if (s x) (tells_all d (f x) (Q x) (t x) l)) (tells_pairs d u U f Q s t l))
  where
    join : ((U x → (i : ℕ) → i < length l → Q x (get_or l i d)) × Pairs d l U Q) → Pairs d (x ∷ l) U Q
    join p zero zero h k v = absurd (not-suc-le-zero h)
    join p zero (suc j) h k v = p.0 v j (le_of_suc-le-suc k)
    join p (suc i) zero h k v = absurd (not-suc-le-zero h)
    join p (suc i) (suc j) h k v = p.1 i j (le_of_suc-le-suc h) (le_of_suc-le-suc k) v

    part : Pairs d (x ∷ l) U Q → (U x → (i : ℕ) → i < length l → Q x (get_or l i d)) × Pairs d l U Q
    part g = (λ v i h. g zero (suc i) (suc-le-suc zero-le) (suc-le-suc h) v, λ i j h k v. g (suc i) (suc j) (suc-le-suc h) (suc-le-suc k) v)

-- ---- the same test in other words

-- a test that does not ask for a row's number
pub all_as_rows : {A : Type 0} (f : A → Bool) (k : ℕ) (l : List A) → all f l ≡ all_rows (λ i x. f x) k l
unfolding all all_rows
all_as_rows f k [] = refl
all_as_rows f k (x ∷ l) = ap (λ b. f x && b) (all_as_rows f (suc k) l)

-- two tests of every row are one test of both
pub rows_both : {A : Type 0} (f g : ℕ → A → Bool) (i : ℕ) (l : List A) → all_rows (λ j x. f j x && g j x) i l ≡ (all_rows f i l && all_rows g i l)
unfolding all_rows
rows_both f g i [] = refl
rows_both f g i (x ∷ l) = ap (λ t. (f i x && g i x) && t) (rows_both f g (suc i) l) ∙ swap (f i x) (g i x) (all_rows f (suc i) l) (all_rows g (suc i) l)
  where
    swap : (a b c d : Bool) → ((a && b) && (c && d)) ≡ ((a && c) && (b && d))
    swap false b c d = refl
    swap true false true d = refl
    swap true false false d = refl
    swap true true c d = refl

-- tests that agree on every row
pub rows_agree : {A : Type 0} (f g : ℕ → A → Bool) (k : ℕ) (l : List A) → ((i : ℕ) (x : A) → i < k + length l → f i x ≡ g i x) → all_rows f k l ≡ all_rows g k l
unfolding all_rows
rows_agree f g k [] same = refl
rows_agree f g k (x ∷ l) same = ap (λ b. b && all_rows f (suc k) l) (same k x (omega arith)) ∙ ap (λ b. g k x && b) (rows_agree f g (suc k) l (λ i y h. same i y (omega arith)))

module _ {A : Type 0} (u : A → Bool) (f : A → A → Bool) (l : List A) where
  drop_tail : (k : ℕ) (x : A) (t : List A) → drop k l ≡ x ∷ t → drop (k + 1) l ≡ t
  drop_tail k x t e = sym (drop-drop 1 k l) ∙ ap (λ y. drop 1 y) e

  pairs_from : (k : ℕ) (t : List A) → drop k l ≡ t → all_pairs u f t ≡ all_rows (later u f l) k t
  unfolding all_rows all_pairs
  pairs_from k [] e = refl
  pairs_from k (x ∷ t) e =
      ap (λ y. (not (u x) || all (f x) y) && all_pairs u f t) (sym (drop_tail k x t e)) ∙ ap (λ b. later u f l k x && b) (pairs_from (suc k) t (ap (λ (j : ℕ). drop j l) (sym (add-one k)) ∙ drop_tail k x t e))

  pub pairs_rows : all_pairs u f l ≡ all_rows (later u f l) 0 l
  pairs_rows = pairs_from 0 l refl

-- ---- those that are kept

all_kept : {A B : Type 0} (u : A → Bool) (g : A → B) (p : B → Bool) (l : List A) → all p (map g (keep u l)) ≡ all (λ a. not (u a) || p (g a)) l
unfolding all keep
all_kept u g p [] = refl
all_kept u g p (a ∷ l) = go (u a) (all_kept u g p l)
  where
    go : (b : Bool) → all p (map g (keep u l)) ≡ all (λ x. not (u x) || p (g x)) l → all p (map g (cond b (a ∷ keep u l) (keep u l))) ≡ ((not b || p (g a)) && all (λ x. not (u x) || p (g x)) l)
    go true e = ap (λ t. p (g a) && t) e
    go false e = e

pub pairs_kept : {A B : Type 0} (u : A → Bool) (g : A → B) (f : B → B → Bool) (l : List A) → all_pairs (λ b. true) f (map g (keep u l)) ≡ all_pairs u (λ x y. not (u y) || f (g x) (g y)) l
unfolding all_pairs keep
pairs_kept u g f [] = refl
pairs_kept u g f (a ∷ l) = go (u a) (pairs_kept u g f l)
  where
    go : (b : Bool) → all_pairs (λ x. true) f (map g (keep u l)) ≡ all_pairs u (λ x y. not (u y) || f (g x) (g y)) l → all_pairs (λ x. true) f (map g (cond b (a ∷ keep u l) (keep u l))) ≡ ((not b || all (λ y. not (u y) || f (g a) (g y)) l) && all_pairs u (λ x y. not (u y) || f (g x) (g y)) l)
    go true e = ap (λ t. t && all_pairs (λ x. true) f (map g (keep u l))) (all_kept u g (f (g a)) l) ∙ ap (λ t. all (λ y. not (u y) || f (g a) (g y)) l && t) e
    go false e = e
