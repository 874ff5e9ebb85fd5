-- Laws of `Form`: a segment by itself: its form, its place in list order, and what it overlaps.
use Rattle.std.specs.Prelude.{◌≡◌, refl, ℕ, ◌-◌, ◌^◌, ◌≤◌, ◌<◌, eqb, ltb, leb, Ok, Err}
use Rattle.std.proofs.Common.{ap, sym, ◌∙◌, arith}
use mathlib.Core.Bool.{Bool, true, false, cond}
use Rattle.answers.specs.declared.Refusal.TheVariants.{BadAddress, BadRange}
use Rattle.address.specs.Canonical.{canonical}
use Rattle.segment.specs.declared.Segment.{Segment}
use Rattle.segment.specs.Form.{start_of, last_of, in_half, form_of, sameb, beforeb, overb, done, Same, Before, Over}
use borrow.Author.Tests.{eqb-true, eqb-false, ltb-true, ltb-false, eq-eqb, ne_eqb, lt-ltb, le-ltb}
use Rattle.laws.specs.Tells.{Tells}
use Rattle.laws.specs.TellsLaws.{told, not_told, tells_same, tells_both}
use Rattle.laws.specs.TestLaws.{tells_eq, tells_lt, tells_le, tells_not, tells_or, tells_as}

-- ---- order and overlap

pub same_tells : (a b : Segment) → Tells (sameb a b) (Same a b)
same_tells a b = tells_as (λ p. record { starts = p.0; lens = p.1 }) (λ s. (s.starts, s.lens)) (tells_both (tells_eq (start_of a) (start_of b)) (tells_eq a.len b.len))

pub before_tells : (a b : Segment) → Tells (beforeb a b) (Before a b)
before_tells a b = tells_or (tells_lt _ _) (tells_both (tells_eq _ _) (tells_lt _ _))

pub over_tells : (s : Segment) (first last : ℕ) → Tells (overb s first last) (Over s first last)
over_tells s first last =
    tells_as (λ p. record { some = p.0; reaches = p.1.0; begins = p.1.1 })
    (λ o. (o.some, (o.reaches, o.begins)))
    (tells_both (tells_not (tells_eq s.len 0)) (tells_both (tells_le first (last_of s)) (tells_le (start_of s) last)))

-- the same start and length make the same segment
pub same_is : (a b : Segment) → Same a b → a ≡ b
same_is a b s = λ k. record { start = record { 0 = s.starts k }; len = s.lens k }

module _ (a b : Segment) where
  pub is_starts : start_of a ≡ start_of b → eqb a.len b.len ≡ sameb a b
  is_starts e = rw (eq-eqb (start_of a) (start_of b) e)

  pub is_not : (start_of a ≡ start_of b → ⊥) → false ≡ sameb a b
  is_not n = rw (ne_eqb (start_of a) (start_of b) n)

  pub before_starts : start_of a ≡ start_of b → ltb a.len b.len ≡ beforeb a b
  before_starts e = rw (eq-eqb (start_of a) (start_of b) e, le-ltb (start_of a) (start_of b) (omega arith))

  pub before_apart : (start_of a ≡ start_of b → ⊥) → ltb (start_of a) (start_of b) ≡ beforeb a b
  before_apart n = rw (ne_eqb (start_of a) (start_of b) n) (sym (mathlib.Core.Bool.or-false _))

module _ (s : Segment) (first last : ℕ) where
  pub over_empty : s.len ≡ 0 → false ≡ overb s first last
  over_empty e = sym (not_told (over_tells s first last) (λ o. o.some e))

  pub over_after : last < start_of s → false ≡ overb s first last
  over_after h = sym (not_told (over_tells s first last) (λ o. let b = o.begins in omega arith))

  module _ (n : s.len ≡ 0 → ⊥) (b : start_of s ≤ last) where
    pub over_inside : first ≤ start_of s → true ≡ overb s first last
    over_inside h = sym (told (over_tells s first last) (record { some = n; reaches = omega arith; begins = b }))

    pub over_reaches : start_of s < first → leb (first - start_of s) (s.len - 1) ≡ overb s first last
    over_reaches h = tells_same
        (tells_as (λ l. record { some = n; reaches = omega arith; begins = b }) (λ o. let r = o.reaches in omega arith) (tells_le (first - start_of s) (s.len - 1)))
        (over_tells s first last)

-- ---- form

module _ (s : Segment) where
  pub form_address : canonical (start_of s) ≡ false → Err BadAddress ≡ form_of s
  unfolding form_of
  form_address e = rw e

  module _ (c : canonical (start_of s) ≡ true) where
    pub form_empty : s.len ≡ 0 → Ok tt ≡ form_of s
    unfolding form_of
    form_empty e = rw (c, eq-eqb s.len 0 e)

    module _ (n : s.len ≡ 0 → ⊥) where
      form_half : (b : Bool) → in_half s ≡ b → cond b (Ok tt) (Err BadRange) ≡ form_of s
      unfolding form_of
      form_half b e = rw (c, ne_eqb s.len 0 n, e)

      half_low : start_of s < 2 ^ 47 → in_half s ≡ ltb (last_of s) (2 ^ 47)
      unfolding in_half
      half_low h = rw (lt-ltb (start_of s) (2 ^ 47) h)

      half_high : 2 ^ 47 ≤ start_of s → in_half s ≡ ltb (last_of s) (2 ^ 64)
      unfolding in_half
      half_high h = rw (le-ltb (start_of s) (2 ^ 47) h)

      pub form_low : start_of s < 2 ^ 47 → s.len ≤ 2 ^ 47 - start_of s → Ok tt ≡ form_of s
      form_low h l = form_half true (half_low h ∙ lt-ltb (last_of s) (2 ^ 47) (omega arith))

      pub form_low_past : start_of s < 2 ^ 47 → 2 ^ 47 - start_of s < s.len → Err BadRange ≡ form_of s
      form_low_past h l = form_half false (half_low h ∙ le-ltb (last_of s) (2 ^ 47) (omega arith))

      pub form_high : 2 ^ 47 ≤ start_of s → start_of s < 2 ^ 64 → s.len - 1 ≤ 18446744073709551615 - start_of s → Ok tt ≡ form_of s
      form_high h f l = form_half true (half_high h ∙ lt-ltb (last_of s) (2 ^ 64) (omega arith))

      pub form_high_past : 2 ^ 47 ≤ start_of s → start_of s < 2 ^ 64 → 18446744073709551615 - start_of s < s.len - 1 → Err BadRange ≡ form_of s
      form_high_past h f l = form_half false (half_high h ∙ le-ltb (last_of s) (2 ^ 64) (omega arith))

-- a well-formed segment's last byte is an address
pub form_last : (s : Segment) → start_of s < 2 ^ 64 → form_of s ≡ Ok tt → last_of s < 2 ^ 64
form_last s f e = by_len (eqb s.len 0) refl
  where
    clash : {A : Type 0} → Err BadRange ≡ form_of s → A
    clash p = absurd (mathlib.Core.Bool.false≢true (ap done (p ∙ e)))

    clash_address : {A : Type 0} → Err BadAddress ≡ form_of s → A
    clash_address p = absurd (mathlib.Core.Bool.false≢true (ap done (p ∙ e)))

    in_half_is : (x : Bool) → ltb (last_of s) (2 ^ 64) ≡ x → (k : Bool) → canonical (start_of s) ≡ k → (h : Bool) → ltb (start_of s) (2 ^ 47) ≡ h → (s.len ≡ 0 → ⊥) → last_of s < 2 ^ 64
    in_half_is true p k c h q n = ltb-true _ _ p
    in_half_is false p false c h q n = clash_address (form_address s c)
    in_half_is false p true c true q n = let l = ltb-false (last_of s) (2 ^ 64) p in let m = ltb-true (start_of s) (2 ^ 47) q in clash (form_low_past s c n m (omega arith))
    in_half_is false p true c false q n = let l = ltb-false (last_of s) (2 ^ 64) p in clash (form_high_past s c n (ltb-false (start_of s) (2 ^ 47) q) f (omega arith))

    by_len : (z : Bool) → eqb s.len 0 ≡ z → last_of s < 2 ^ 64
    by_len true p = let l = eqb-true s.len 0 p in omega arith
    by_len false p = in_half_is _ refl _ refl _ refl (eqb-false s.len 0 p)
