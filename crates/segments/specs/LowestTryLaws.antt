-- The tries from a start on answer the lowest clear start at or above it.
use Rattle.laws.specs.ResultLaws.{some_not_none}
use Rattle.std.proofs.Math.Path.{◌≡◌, refl}
use Rattle.std.proofs.Common.{subst, ⊎_elim, not-suc-le-zero}
use Rattle.std.specs.Prelude.{Bool, Option, Some, None}
use Rattle.std.proofs.Math.Bool.{true, false}
use mathlib.Core.List.{List, [], ◌∷◌}
use Prim.Native.Nat.{ℕ, zero, suc, ◌+◌, ◌-◌, ◌≤◌, ◌<◌}
use native.Mathlib.Omega.{arith}
use Rattle.std.proofs.Math.Dec.{ltb}
use borrow.Author.Tests.{ltb-true, ltb-false}
use Rattle.segment.specs.declared.Segment.{Segment}
use Rattle.segment.specs.Form.{start_of, overb, Over}
use Rattle.segment.specs.FormLaws.{over_tells}
use Rattle.segments.specs.Table.{All}
use Rattle.segment_search.specs.Search.{first_over, ahead, try, tries}
use Rattle.segment_search.specs.TriesLaws.{by_test, first_cases, none_first, first_over_is, ahead_falls}
use Rattle.segments.specs.FreeStart.{Clear}

-- ---- the first in the way

module _ (first last : ℕ) where
  -- what holds of all holds of the first in the way
  pub first_of_all : (P : Segment → Type 0) (t : List Segment) (s : Segment) → first_over t first last ≡ Some s → All P t → P s
  first_of_all P [] s e h = absurd (none_first first last s e)
  first_of_all P (x ∷ t) s e h = ⊎_elim (λ k. subst P k.1 h.0) (λ k. first_of_all P t s k.1 h.1) (first_cases first last x t s e)

  pub none_over : (t : List Segment) → first_over t first last ≡ None → All (λ s. Over s first last → ⊥) t
  unfolding first_over
  none_over [] e = tt
  none_over (x ∷ t) e = by_test (overb x first last) (λ o. absurd (clash o)) (λ n. ((over_tells x first last).no n, none_over t (rw n at e)))
    where
      clash : overb x first last ≡ true → ⊥
      clash o = some_not_none (rw o at e)

-- ---- the lowest

module _ (t : List Segment) (last len : ℕ) where
  -- what the search from `start` on must answer
  abbrev pub Right : ℕ → Option (ℕ × ℕ) → Type 0
  Right start (Some (a, r)) = (start ≤ a) × (a + (len - 1) ≤ last) × Clear t len a × ((x : ℕ) → start ≤ x → x < a → Clear t len x → ⊥)
  Right start None = (x : ℕ) → start ≤ x → x + (len - 1) ≤ last → Clear t len x → ⊥

  -- no start up to the end of the first in the way is clear
  passes : (start : ℕ) (s : Segment) → first_over t start (start + (len - 1)) ≡ Some s → (x : ℕ) → start ≤ x → x < start_of s + s.len → Clear t len x → ⊥
  passes start s e x l h c =
      first_of_all start (start + (len - 1)) (λ y. Over y x (x + (len - 1)) → ⊥) t s e c (record { some = o.some; reaches = omega arith; begins = omega (arith, o.begins) })
    where
      o : Over s start (start + (len - 1))
      o = first_over_is start (start + (len - 1)) t s e

  pub tries_right : (n start restarts : ℕ) → ahead t start < n → Right start (tries n t last len start restarts)
  unfolding tries
  tries_right zero start r h = absurd (not-suc-le-zero h)
  tries_right (suc n) start r h = one (tries_right n) (ltb last (start + (len - 1))) refl (first_over t start (start + (len - 1))) refl
    where
      one : ((start restarts : ℕ) → ahead t start < n → Right start (tries n t last len start restarts))
          → (b : Bool) → ltb last (start + (len - 1)) ≡ b → (f : Option Segment) → first_over t start (start + (len - 1)) ≡ f → Right start (try (tries n t last len) b f start r)
      one again true b f e = λ x l k c. omega (arith, ltb-true last (start + (len - 1)) b)
      one again false b None e = (omega arith, ltb-false last (start + (len - 1)) b, none_over start (start + (len - 1)) t e, λ x l k c. omega arith)
      one again false b (Some s) e =
          later (tries n t last len (start_of s + s.len) (r + 1)) (again (start_of s + s.len) (r + 1) (omega (arith, ahead_falls start (start + (len - 1)) t s e)))
        where
          o : Over s start (start + (len - 1))
          o = first_over_is start (start + (len - 1)) t s e

          skip : (x : ℕ) → start ≤ x → Clear t len x → start_of s + s.len ≤ x
          skip x l c =
              by_test (ltb x (start_of s + s.len)) (λ h. absurd (passes start s e x l (ltb-true x (start_of s + s.len) h) c)) (ltb-false x (start_of s + s.len))

          later : (f : Option (ℕ × ℕ)) → Right (start_of s + s.len) f → Right start f
          later None k = λ x l h c. k x (skip x l c) h c
          later (Some (a, r)) k = (omega (arith, o.reaches, k.0), k.1, k.2, λ x l h c. k.3 x (skip x l c) h c)
