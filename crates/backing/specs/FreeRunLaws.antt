-- Free frames before and after a run of them is taken or given back: how many, and the lowest.
use Rattle.std.specs.Prelude.{◌≡◌, ℕ, zero, suc, ◌+◌, ◌-◌, ◌<◌, ◌≤◌, Bool, true, false, cond, not, ◌||◌, List, [], ◌∷◌, length, nat_lt}
use Rattle.std.proofs.Math.Path.{refl}
use Rattle.std.proofs.Common.{ap, sym, ◌∙◌, true≢false, ltb-true, ltb-false, lt-ltb, le-ltb, le-leb}
use Rattle.std.proofs.lemmas.Bool.{false≢true, lt-leb}
use native.Mathlib.Omega.{arith}
use Rattle.laws.specs.Lists.{keep, up_from, first}
use Rattle.backing.specs.BackingSteps.{in_run, lower}

pub in_run_is : (f n x : ℕ) → f ≤ x → x < f + n → in_run f n x ≡ true
in_run_is f n x p q = rw (le-leb f x p, lt-ltb x (f + n) q)

before_run : (f n x : ℕ) → x < f → in_run f n x ≡ false
before_run f n x p = rw (lt-leb f x p)

past_run : (f n x : ℕ) → f + n ≤ x → in_run f n x ≡ false
past_run f n x p = rw (le-leb f x (omega arith), le-ltb x (f + n) p)

-- of the numbers from a on that are in a run, with a in it or past it
count_rest : (f n a k : ℕ) → f ≤ a → f + n ≤ a + k → length (keep (in_run f n) (up_from a k)) ≡ f + n - a
unfolding keep up_from
count_rest f n a zero h e = omega arith
count_rest f n a (suc k) h e = go (nat_lt a (f + n)) refl (count_rest f n (a + 1) k (omega arith) (omega arith))
  where
    go : (b : Bool) → nat_lt a (f + n) ≡ b → length (keep (in_run f n) (up_from (a + 1) k)) ≡ f + n - (a + 1) → length (cond (in_run f n a) (a ∷ keep (in_run f n) (up_from (a + 1) k)) (keep (in_run f n) (up_from (a + 1) k))) ≡ f + n - a
    go true q ih = let p = ltb-true a (f + n) q in rw (in_run_is f n a h p) (omega arith)
    go false q ih = let p = ltb-false a (f + n) q in rw (past_run f n a p) (omega arith)

count_run : (f n a k : ℕ) → a ≤ f → f + n ≤ a + k → length (keep (in_run f n) (up_from a k)) ≡ n
unfolding keep up_from
count_run f n a zero h e = omega arith
count_run f n a (suc k) h e = go (nat_lt a f) refl (count_run f n (a + 1) k)
  where
    go : (b : Bool) → nat_lt a f ≡ b → (a + 1 ≤ f → f + n ≤ a + 1 + k → length (keep (in_run f n) (up_from (a + 1) k)) ≡ n) → length (cond (in_run f n a) (a ∷ keep (in_run f n) (up_from (a + 1) k)) (keep (in_run f n) (up_from (a + 1) k))) ≡ n
    go true q ih = let p = ltb-true a f q in rw (before_run f n a p) (ih (omega arith) (omega arith))
    go false q ih = let p = ltb-false a f q in let all = count_rest f n a (suc k) p e in omega arith

-- the first that passes is not below where the numbers start
pub first_above : (p : ℕ → Bool) (d a k : ℕ) → a ≤ d → a ≤ first d (keep p (up_from a k))
unfolding keep up_from
first_above p d a zero h = h
first_above p d a (suc k) h = go (p a) (first_above p (suc d) (a + 1) k (omega arith))
  where
    lowered : (r : List ℕ) → a + 1 ≤ first (suc d) r → a ≤ first d r
    lowered [] q = h
    lowered (x ∷ r) q = omega arith

    go : (b : Bool) → a + 1 ≤ first (suc d) (keep p (up_from (a + 1) k)) → a ≤ first d (cond b (a ∷ keep p (up_from (a + 1) k)) (keep p (up_from (a + 1) k)))
    go true q = omega arith
    go false q = lowered (keep p (up_from (a + 1) k)) q

-- .. and no higher than any number that passes
pub first_most : (p : ℕ → Bool) (d a k x : ℕ) → a ≤ x → x < a + k → p x ≡ true → first d (keep p (up_from a k)) ≤ x
unfolding keep up_from
first_most p d a zero x h l e = absurd (omega arith)
first_most p d a (suc k) x h l e = go (p a) refl (nat_lt a x) refl (first_most p d (a + 1) k x)
  where
    go : (b : Bool) → p a ≡ b → (t : Bool) → nat_lt a x ≡ t → (a + 1 ≤ x → x < a + 1 + k → p x ≡ true → first d (keep p (up_from (a + 1) k)) ≤ x) → first d (cond b (a ∷ keep p (up_from (a + 1) k)) (keep p (up_from (a + 1) k))) ≤ x
    go true q t r ih = h
    go false q true r ih = let further = ltb-true a x r in ih (omega arith) (omega arith) e
    go false q false r ih = let low = ltb-false a x r in let here : x ≡ a = omega arith in absurd (true≢false (sym e ∙ ap p here ∙ q))

-- numbers that do not pass are skipped
pub keep_skip : (p : ℕ → Bool) (a b j k t : ℕ) → b ≡ a + j → t ≡ j + k → ((x : ℕ) → a ≤ x → x < b → p x ≡ false) → keep p (up_from a t) ≡ keep p (up_from b k)
unfolding keep up_from
keep_skip p a b zero k t e s h = let here : a ≡ b = omega arith in let all : t ≡ k = omega arith in ap (λ (x : ℕ). keep p (up_from x t)) here ∙ ap (λ (n : ℕ). keep p (up_from b n)) all
keep_skip p a b (suc j) k zero e s h = absurd (omega arith)
keep_skip p a b (suc j) k (suc t) e s h = rw (h a (omega arith) (omega arith)) (keep_skip p (a + 1) b j k t (omega arith) (omega arith) (λ x l m. h x (omega arith) m))

-- the first passes, where there is one
pub first_passes : (p : ℕ → Bool) (d a k : ℕ) → first d (keep p (up_from a k)) < d → p (first d (keep p (up_from a k))) ≡ true
unfolding keep up_from
first_passes p d a zero h = absurd (omega arith)
first_passes p d a (suc k) h = go (p a) refl h (first_passes p d (a + 1) k)
  where
    go : (b : Bool) → p a ≡ b → first d (cond b (a ∷ keep p (up_from (a + 1) k)) (keep p (up_from (a + 1) k))) < d → (first d (keep p (up_from (a + 1) k)) < d → p (first d (keep p (up_from (a + 1) k))) ≡ true) → p (first d (cond b (a ∷ keep p (up_from (a + 1) k)) (keep p (up_from (a + 1) k)))) ≡ true
    go true e q ih = e
    go false e q ih = ih q

-- where there is none, none passes
pub first_none : (p : ℕ → Bool) (d a k : ℕ) → a + k ≤ d → d ≤ first d (keep p (up_from a k)) → keep p (up_from a k) ≡ []
unfolding keep up_from
first_none p d a zero h e = refl
first_none p d a (suc k) h e = go (p a) e (first_none p d (a + 1) k (omega arith))
  where
    go : (b : Bool) → d ≤ first d (cond b (a ∷ keep p (up_from (a + 1) k)) (keep p (up_from (a + 1) k))) → (d ≤ first d (keep p (up_from (a + 1) k)) → keep p (up_from (a + 1) k) ≡ []) → cond b (a ∷ keep p (up_from (a + 1) k)) (keep p (up_from (a + 1) k)) ≡ []
    go true q ih = absurd (omega arith)
    go false q ih = ih q

-- `with` are in a backing with the n frames from f on, `without` those of the other backings, which have none of the n
module _ (with without : ℕ → Bool) (f n : ℕ) (parts : (x : ℕ) → with x ≡ (in_run f n x || without x)) (apart : (x : ℕ) → in_run f n x ≡ true → without x ≡ false) where
  abbrev few : ℕ → Bool
  few x = not (with x)

  abbrev many : ℕ → Bool
  many x = not (without x)

  many_run : (x : ℕ) → in_run f n x ≡ true → many x ≡ true
  many_run x e = ap not (apart x e)

  few_run : (x : ℕ) → in_run f n x ≡ true → few x ≡ false
  few_run x e = ap not (parts x ∙ ap (λ t. t || without x) e)

  same_off : (x : ℕ) → in_run f n x ≡ false → few x ≡ many x
  same_off x e = ap not (parts x ∙ ap (λ t. t || without x) e)

  -- what is free with the run is free without it
  pub few_many : (x : ℕ) → few x ≡ true → many x ≡ true
  few_many x e = go (in_run f n x) refl
    where
      go : (r : Bool) → in_run f n x ≡ r → many x ≡ true
      go true q = many_run x q
      go false q = sym (same_off x q) ∙ e

  -- of any numbers, those that are free without the run are those that are free with it and those of the run
  count_parts : (a k : ℕ) → length (keep many (up_from a k)) ≡ length (keep few (up_from a k)) + length (keep (in_run f n) (up_from a k))
  unfolding keep up_from
  count_parts a zero = omega arith
  count_parts a (suc k) = go (in_run f n a) refl (many a) refl (count_parts (a + 1) k)
    where
      M : List ℕ
      M = keep many (up_from (a + 1) k)

      F : List ℕ
      F = keep few (up_from (a + 1) k)

      R : List ℕ
      R = keep (in_run f n) (up_from (a + 1) k)

      go : (r : Bool) → in_run f n a ≡ r → (m : Bool) → many a ≡ m → length M ≡ length F + length R → length (cond m (a ∷ M) M) ≡ length (cond (few a) (a ∷ F) F) + length (cond r (a ∷ R) R)
      go true e true q ih = rw (few_run a e) (omega arith)
      go true e false q ih = absurd (false≢true (sym q ∙ many_run a e))
      go false e true q ih = rw (same_off a e ∙ q) (omega arith)
      go false e false q ih = rw (same_off a e ∙ q) (omega arith)

  pub count_split : (k : ℕ) → f + n ≤ k → length (keep many (up_from 0 k)) ≡ length (keep few (up_from 0 k)) + n
  count_split k h = let all = count_parts 0 k in let run = count_run f n 0 k (omega arith) (omega arith) in omega arith

  -- the run given back: the lower of the lowest and the run's first
  given_from : (d a k : ℕ) → 1 ≤ n → a ≤ f → f < a + k → f < d → first d (keep many (up_from a k)) ≡ lower (first d (keep few (up_from a k))) f
  unfolding keep up_from
  given_from d a zero s h e l = absurd (omega arith)
  given_from d a (suc k) s h e l = go (nat_lt a f) refl (many a) refl (given_from d (a + 1) k s)
    where
      M : List ℕ
      M = keep many (up_from (a + 1) k)

      F : List ℕ
      F = keep few (up_from (a + 1) k)

      go : (b : Bool) → nat_lt a f ≡ b → (m : Bool) → many a ≡ m → (a + 1 ≤ f → f < a + 1 + k → f < d → first d M ≡ lower (first d F) f) → first d (cond m (a ∷ M) M) ≡ lower (first d (cond (few a) (a ∷ F) F)) f
      go true q true r ih = let p = ltb-true a f q in rw (same_off a (before_run f n a p) ∙ r, le-ltb f a (omega arith))
      go true q false r ih = let p = ltb-true a f q in rw (same_off a (before_run f n a p) ∙ r) (ih (omega arith) (omega arith) l)
      go false q true r ih =
          let p = ltb-false a f q in
          let here : a ≡ f = omega arith in
          let up = first_above few d (a + 1) k (omega arith) in
          rw (few_run a (in_run_is f n a p (omega arith)), lt-ltb f (first d (keep few (up_from (a + 1) k))) (omega arith)) here
      go false q false r ih = let p = ltb-false a f q in absurd (false≢true (sym r ∙ many_run a (in_run_is f n a p (omega arith))))

  pub given_first : (k : ℕ) → 1 ≤ n → f + n ≤ k → first k (keep many (up_from 0 k)) ≡ lower (first k (keep few (up_from 0 k))) f
  given_first k s h = given_from k 0 k s (omega arith) (omega arith) (omega arith)
