-- The tries of the search are enough: each start over leaves fewer segments ahead.
use Rattle.laws.specs.ResultLaws.{none_not_some}
use Rattle.std.proofs.Math.Path.{◌≡◌, refl}
use Rattle.std.proofs.Common.{subst, ⊎_elim, not-suc-le-zero}
use Rattle.std.specs.Prelude.{◌⊎◌, Bool, List, [], ◌∷◌, ltb, length, Option, Some, None}
use Rattle.std.proofs.Math.Logic.{inl, inr}
use Rattle.std.proofs.Math.Bool.{true, false}
use Prim.Native.Nat.{ℕ, zero, suc, ◌+◌, ◌-◌, ◌≤◌, ◌<◌, zero-le}
use native.Mathlib.Omega.{arith}
use Rattle.laws.specs.Tells.{Tells}
use Rattle.laws.specs.TellsLaws.{tells_both, told, not_told}
use Rattle.segment.specs.declared.Segment.{Segment}
use Rattle.segment.specs.Form.{start_of, last_of, overb, Over}
use Rattle.segment.specs.FormLaws.{over_tells}
use Rattle.laws.specs.TestLaws.{tells_eq, tells_le, tells_not}
use Rattle.segment_search.specs.Search.{first_over, count, aheadb, ahead, try, tries}

-- by a test
pub by_test : {P : Type 0} (b : Bool) → (b ≡ true → P) → (b ≡ false → P) → P
by_test true y n = y refl
by_test false y n = n refl

-- ---- counting

pub count_yes : (p : Segment → Bool) (s : Segment) (t : List Segment) → p s ≡ true → count p (s ∷ t) ≡ suc (count p t)
unfolding count
count_yes p s t e = rw e

pub count_no : (p : Segment → Bool) (s : Segment) (t : List Segment) → p s ≡ false → count p (s ∷ t) ≡ count p t
unfolding count
count_no p s t e = rw e

-- of two tests where the second tells more, one row more keeps how much more the second counts
pub count_step : (p q : Segment → Bool) (s : Segment) (t : List Segment) (d : ℕ) → (p s ≡ true → q s ≡ true) → count p t + d ≤ count q t → count p (s ∷ t) + d ≤ count q (s ∷ t)
count_step p q s t d h l = by_test (p s) both (λ n. by_test (q s) (second n) (none n))
  where
    both : p s ≡ true → count p (s ∷ t) + d ≤ count q (s ∷ t)
    both e = rw (count_yes p s t e, count_yes q s t (h e)) (omega arith)

    second : p s ≡ false → q s ≡ true → count p (s ∷ t) + d ≤ count q (s ∷ t)
    second n e = rw (count_no p s t n, count_yes q s t e) (omega arith)

    none : p s ≡ false → q s ≡ false → count p (s ∷ t) + d ≤ count q (s ∷ t)
    none n m = rw (count_no p s t n, count_no q s t m) l

pub count_le : (p q : Segment → Bool) → ((s : Segment) → p s ≡ true → q s ≡ true) → (t : List Segment) → count p t ≤ count q t
unfolding count
count_le p q h t = omega (arith, go t)
  where
    go : (t : List Segment) → count p t + 0 ≤ count q t
    go [] = omega arith
    go (s ∷ t) = count_step p q s t 0 (h s) (go t)

-- ---- what is ahead

-- a segment is ahead of a start: it holds a byte at or above it
abbrev pub Ahead : ℕ → Segment → Type 0
Ahead start s = (s.len ≡ 0 → ⊥) × (start ≤ last_of s)

pub ahead_tells : (start : ℕ) (s : Segment) → Tells (aheadb start s) (Ahead start s)
ahead_tells start s = tells_both (tells_not (tells_eq s.len 0)) (tells_le start (last_of s))

pub count_length : (p : Segment → Bool) (t : List Segment) → count p t ≤ length t
unfolding count
count_length p [] = zero-le
count_length p (s ∷ t) = by_test (p s) (λ e. one e (count_length p t)) (λ e. none e (count_length p t))
  where
    one : p s ≡ true → count p t ≤ length t → count p (s ∷ t) ≤ suc (length t)
    one e l = rw (count_yes p s t e) (omega arith)

    none : p s ≡ false → count p t ≤ length t → count p (s ∷ t) ≤ suc (length t)
    none e l = rw (count_no p s t e) (omega arith)

pub ahead_le : (t : List Segment) (start : ℕ) → ahead t start ≤ length t
ahead_le t start = count_length (aheadb start) t

-- ---- the first in the way

module _ (first last : ℕ) where
  -- it is the first row, or the first of the others
  pub first_cases : (x : Segment) (t : List Segment) (s : Segment) → first_over (x ∷ t) first last ≡ Some s
      → ((overb x first last ≡ true) × (x ≡ s)) ⊎ ((overb x first last ≡ false) × (first_over t first last ≡ Some s))
  unfolding first_over
  first_cases x t s e = by_test (overb x first last) (λ o. inl (o, here o)) (λ n. inr (n, rw n at e))
    where
      here : overb x first last ≡ true → x ≡ s
      here o = let p : Some x ≡ Some s = rw o at e in cc

  pub none_first : (s : Segment) → first_over [] first last ≡ Some s → ⊥
  unfolding first_over
  none_first s e = none_not_some e

  pub first_over_is : (t : List Segment) (s : Segment) → first_over t first last ≡ Some s → Over s first last
  first_over_is [] s e = absurd (none_first s e)
  first_over_is (x ∷ t) s e = ⊎_elim (λ h. subst (λ (y : Segment). Over y first last) h.1 ((over_tells x first last).yes h.0)) (λ h. first_over_is t s h.1) (first_cases x t s e)

  -- past the first in the way there is less ahead
  pub ahead_falls : (t : List Segment) (s : Segment) → first_over t first last ≡ Some s → ahead t (start_of s + s.len) < ahead t first
  ahead_falls t s e = falls t e
    where
      o : Over s first last
      o = first_over_is t s e

      past : (x : Segment) → aheadb (start_of s + s.len) x ≡ true → aheadb first x ≡ true
      past x h = let a : Ahead (start_of s + s.len) x = (ahead_tells (start_of s + s.len) x).yes h in told (ahead_tells first x) (a.0, omega (arith, o.reaches, a.1))

      behind : aheadb (start_of s + s.len) s ≡ false
      behind = not_told (ahead_tells (start_of s + s.len) s) (λ a. a.0 (omega (arith, a.1)))

      falls : (t : List Segment) → first_over t first last ≡ Some s → ahead t (start_of s + s.len) < ahead t first
      falls [] e = absurd (none_first s e)
      falls (x ∷ t) e = ⊎_elim (λ h. here h.1) (λ h. later (falls t h.1)) (first_cases x t s e)
        where
          here : x ≡ s → ahead (x ∷ t) (start_of s + s.len) < ahead (x ∷ t) first
          here p =
              rw (p, count_no (aheadb (start_of s + s.len)) s t behind, count_yes (aheadb first) s t (told (ahead_tells first s) (o.some, o.reaches)))
              (omega (arith, count_le (aheadb (start_of s + s.len)) (aheadb first) past t))

          later : ahead t (start_of s + s.len) < ahead t first → ahead (x ∷ t) (start_of s + s.len) < ahead (x ∷ t) first
          later l = omega (arith, count_step (aheadb (start_of s + s.len)) (aheadb first) x t 1 (past x) (omega arith))

-- ---- the tries

module _ (t : List Segment) (last len : ℕ) where
  -- more tries than segments ahead, and the number of tries does not matter
  tries_same : (n m start restarts : ℕ) → ahead t start < n → ahead t start < m → tries n t last len start restarts ≡ tries m t last len start restarts
  unfolding tries
  tries_same zero m start r h k = absurd (not-suc-le-zero h)
  tries_same (suc n) zero start r h k = absurd (not-suc-le-zero k)
  tries_same (suc n) (suc m) start r h k = same (tries_same n m) (ltb last (start + (len - 1))) (first_over t start (start + (len - 1))) refl
    where
      same : ((start restarts : ℕ) → ahead t start < n → ahead t start < m → tries n t last len start restarts ≡ tries m t last len start restarts)
          → (b : Bool) (f : Option Segment) → first_over t start (start + (len - 1)) ≡ f → try (tries n t last len) b f start r ≡ try (tries m t last len) b f start r
      same again true f e = refl
      same again false None e = refl
      same again false (Some s) e = again (start_of s + s.len) (r + 1) (omega (arith, ahead_falls start (start + (len - 1)) t s e)) (omega (arith, ahead_falls start (start + (len - 1)) t s e))

  pub tries_enough : (n start restarts : ℕ) → ahead t start < n → tries n t last len start restarts ≡ tries (suc (ahead t start)) t last len start restarts
  tries_enough n start r h = tries_same n (suc (ahead t start)) start r h (omega arith)
