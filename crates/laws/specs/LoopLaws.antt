-- The loop law, once for all loops: at the first row, where the answer is found, one row on, and past the last.
use Rattle.std.specs.Prelude.{◌≡◌, refl, Bool, ◌&&◌, ◌||◌, ℕ, suc, ◌+◌, ◌≤◌, ◌<◌, length, get_or, drop}
use Rattle.std.proofs.Math.Path.{ap}
use Rattle.std.proofs.Common.{sym, ◌∙◌, add-one, drop_of_length-le, drop-cons}
use Rattle.std.proofs.Math.Bool.{true, false, cond}
use mathlib.Core.List.{List, [], ◌∷◌}
use native.Mathlib.Omega.{arith}
use Rattle.laws.specs.Tests.{all_rows}
use Rattle.laws.specs.Lists.{all, any, count}
use Rattle.laws.specs.Loops.{Remains, Every, Rest, Sought, Counted}

pub loop_first : {A X : Type 0} (F : List A → X) (l : List A) → Remains F l 0 (F l)
loop_first F l = refl

module _ {A X : Type 0} (F : List A → X) (l : List A) (i : ℕ) (x : X) (s : Remains F l i x) where
  row_next : i < length l → (d a : A) → a ≡ get_or l i d → x ≡ F (a ∷ drop (suc i) l)
  row_next h d a e = s ∙ ap F (drop-cons l i d h) ∙ ap (λ y. F (y ∷ drop (suc i) l)) (sym e)

  -- the row at i settles the answer
  pub loop_found : i < length l → (d a : A) → a ≡ get_or l i d → (y : X) → ((t : List A) → F (a ∷ t) ≡ y) → y ≡ x
  loop_found h d a e y settled = sym (row_next h d a e ∙ settled (drop (suc i) l))

  -- it does not: go on with what G says of the rest
  pub loop_more : i < length l → (d a : A) → a ≡ get_or l i d → (G : List A → X) → ((t : List A) → F (a ∷ t) ≡ G t) → Remains G l (i + 1) x
  loop_more h d a e G on = row_next h d a e ∙ on (drop (suc i) l) ∙ ap (λ (j : ℕ). G (drop j l)) (sym (add-one i))

  -- all are passed
  pub loop_none : length l ≤ i → F [] ≡ x
  loop_none h = sym (s ∙ ap F (drop_of_length-le l {i = i} h))

module _ {A : Type 0} (f : ℕ → A → Bool) (l : List A) (n : ℕ) (sized : length l ≡ n) where
  pub every_first : Every f l n 0
  every_first = (omega arith, loop_first (all_rows f 0) l)

  -- the row at i fails the test: not every row passes
  pub every_fails : (i : ℕ) → Every f l n i → i < n → (d a : A) → a ≡ get_or l i d → f i a ≡ false → false ≡ all_rows f 0 l
  unfolding all_rows
  every_fails i s h d a e p = loop_found (all_rows f i) l i (all_rows f 0 l) s.1 (rw sized h) d a e false (λ t. ap (λ b. b && all_rows f (suc i) t) p)

  -- it passes: go on
  pub every_more : (i : ℕ) → Every f l n i → i < n → (d a : A) → a ≡ get_or l i d → f i a ≡ true → Every f l n (i + 1)
  unfolding all_rows
  every_more i s h d a e p = (omega arith, loop_more (all_rows f i) l i (all_rows f 0 l) s.1 (rw sized h) d a e (all_rows f (i + 1)) on)
    where
      on : (t : List A) → (f i a && all_rows f (suc i) t) ≡ all_rows f (i + 1) t
      on t = ap (λ b. b && all_rows f (suc i) t) p ∙ ap (λ (j : ℕ). all_rows f j t) (sym (add-one i))

  -- all are passed
  pub every_all : (i : ℕ) → Every f l n i → n ≤ i → true ≡ all_rows f 0 l
  unfolding all_rows
  every_all i s h = loop_none (all_rows f i) l i (all_rows f 0 l) s.1 (rw sized h)

module _ {A : Type 0} (f : A → Bool) (l : List A) (n : ℕ) (sized : length l ≡ n) (k i : ℕ) (s : Rest f l n k i) where
  pub rest_fails : i < n → (d a : A) → a ≡ get_or l i d → f a ≡ false → false ≡ all f (drop k l)
  unfolding all
  rest_fails h d a e p = loop_found (all f) l i (all f (drop k l)) s.1 (rw sized h) d a e false (λ t. ap (λ b. b && all f t) p)

  pub rest_more : i < n → (d a : A) → a ≡ get_or l i d → f a ≡ true → Rest f l n k (i + 1)
  unfolding all
  rest_more h d a e p = (omega arith, loop_more (all f) l i (all f (drop k l)) s.1 (rw sized h) d a e (all f) (λ t. ap (λ b. b && all f t) p))

  pub rest_all : n ≤ i → true ≡ all f (drop k l)
  unfolding all
  rest_all h = loop_none (all f) l i (all f (drop k l)) s.1 (rw sized h)

module _ {A : Type 0} (f : A → Bool) (l : List A) (n : ℕ) (sized : length l ≡ n) (i : ℕ) (s : Sought f l n i) where
  -- the row at i passes the test: some row does
  pub sought_found : i < n → (d a : A) → a ≡ get_or l i d → f a ≡ true → true ≡ any f l
  unfolding any
  sought_found h d a e p = loop_found (any f) l i (any f l) s.1 (rw sized h) d a e true (λ t. ap (λ b. b || any f t) p)

  pub sought_more : i < n → (d a : A) → a ≡ get_or l i d → f a ≡ false → Sought f l n (i + 1)
  unfolding any
  sought_more h d a e p = (omega arith, loop_more (any f) l i (any f l) s.1 (rw sized h) d a e (any f) (λ t. ap (λ b. b || any f t) p))

  pub sought_none : n ≤ i → false ≡ any f l
  unfolding any
  sought_none h = loop_none (any f) l i (any f l) s.1 (rw sized h)

-- a row counts 1 or 0
one_more : (b : Bool) (k r : ℕ) → k + cond b (r + 1) r ≡ k + cond b 1 0 + r
one_more true k r = omega arith
one_more false k r = omega arith

most_one : (b : Bool) → cond b 1 0 ≤ 1
most_one true = omega arith
most_one false = omega arith

module _ {A : Type 0} (f : A → Bool) (l : List A) (n : ℕ) (sized : length l ≡ n) where
  pub counted_first : Counted f l n 0 0
  counted_first = (omega arith, (omega arith, omega arith))

  pub counted_more : (i k : ℕ) → Counted f l n i k → i < n → (d a : A) → a ≡ get_or l i d → (c : ℕ) → c ≡ cond (f a) 1 0 → Counted f l n (i + 1) (k + c)
  unfolding count
  counted_more i k s h d a e c q =
      let few = most_one (f a) in
      let lower = s.1.0 in
      (omega arith, (omega arith, loop_more (λ t. k + count f t) l i (count f l) s.1.1 (rw sized h) d a e (λ t. k + c + count f t) on))
    where
      on : (t : List A) → k + cond (f a) (count f t + 1) (count f t) ≡ k + c + count f t
      on t = one_more (f a) k (count f t) ∙ ap (λ (j : ℕ). k + j + count f t) (sym q)

  pub counted_all : (i k : ℕ) → Counted f l n i k → n ≤ i → k ≡ count f l
  unfolding count
  counted_all i k s h = let all = loop_none (λ t. k + count f t) l i (count f l) s.1.1 (rw sized h) in omega arith
