-- A segment of good form lies in one canonical half, and so does every part of it.
use Rattle.std.specs.Prelude.{◌≡◌, ◌⊎◌, Bool, false, ◌&&◌, ◌||◌, ℕ, ◌-◌, ◌^◌, ◌≤◌, ◌<◌}
use Rattle.std.proofs.Common.{subst, ⊎_elim, arith}
use Rattle.std.proofs.Math.Logic.{inl, inr}
use Rattle.std.proofs.Math.Bool.{true}
use Rattle.std.proofs.Math.Dec.{ltb}
use borrow.Author.Tests.{ltb-true, ltb-false}
use Rattle.address.specs.Canonical.{canonical}
use Rattle.laws.specs.Tells.{Tells}
use Rattle.laws.specs.TellsLaws.{tells_both, told}
use Rattle.segment.specs.declared.Segment.{Segment}
use Rattle.segment.specs.Form.{start_of, last_of, emptyb, in_half, form_of, done}
use Rattle.laws.specs.TestLaws.{tells_eq, tells_lt, tells_le, tells_or, tells_as}
use Rattle.segments.specs.Table.{Formed}
use Rattle.segment_search.specs.TriesLaws.{by_test}
use Rattle.segments.specs.RuleLaws.{formed_tells}

-- RULES S2: an arena or non-empty segment lies in one canonical half, its last byte included, and may end at 2^64 - 1;
-- an empty one has a canonical start
abbrev pub OneHalf : Segment → Type 0
OneHalf s = ((start_of s < 2 ^ 47) × ((s.len ≡ 0) ⊎ (last_of s < 2 ^ 47))) ⊎ ((2 ^ 64 - 2 ^ 47 ≤ start_of s) × ((s.len ≡ 0) ⊎ (last_of s < 2 ^ 64)))

module _ (s : Segment) where
  half_tells : Tells (in_half s) (((start_of s < 2 ^ 47) × (last_of s < 2 ^ 47)) ⊎ ((2 ^ 47 ≤ start_of s) × (last_of s < 2 ^ 64)))
  unfolding in_half
  half_tells = by_test (ltb (start_of s) (2 ^ 47)) low high
    where
      low : ltb (start_of s) (2 ^ 47) ≡ true → Tells (in_half s) (((start_of s < 2 ^ 47) × (last_of s < 2 ^ 47)) ⊎ ((2 ^ 47 ≤ start_of s) × (last_of s < 2 ^ 64)))
      low e = rw e (tells_as (λ l. inl (ltb-true (start_of s) (2 ^ 47) e, l)) (⊎_elim (λ p. p.1) (λ p. absurd (omega (arith, ltb-true (start_of s) (2 ^ 47) e, p.0)))) (tells_lt (last_of s) (2 ^ 47)))

      high : ltb (start_of s) (2 ^ 47) ≡ false → Tells (in_half s) (((start_of s < 2 ^ 47) × (last_of s < 2 ^ 47)) ⊎ ((2 ^ 47 ≤ start_of s) × (last_of s < 2 ^ 64)))
      high e = rw e (tells_as (λ l. inr (ltb-false (start_of s) (2 ^ 47) e, l)) (⊎_elim (λ p. absurd (omega (arith, ltb-false (start_of s) (2 ^ 47) e, p.0))) (λ p. p.1)) (tells_lt (last_of s) (2 ^ 64)))

  form_test : (canonical (start_of s) && (emptyb s || in_half s)) ≡ done (form_of s)
  unfolding form_of
  form_test = by_test (canonical (start_of s)) (λ c. by_test (emptyb s) (λ e. rw (c, e)) (λ e. by_test (in_half s) (λ h. rw (c, e, h)) (λ h. rw (c, e, h)))) (λ c. rw c)

  test_tells : Tells (canonical (start_of s) && (emptyb s || in_half s)) (OneHalf s)
  unfolding canonical
  test_tells = tells_as (λ p. to p.0 p.1) from (tells_both (tells_or (tells_lt (start_of s) (2 ^ 47)) (tells_le (2 ^ 64 - 2 ^ 47) (start_of s))) (tells_or (tells_eq s.len 0) half_tells))
    where
      to : (start_of s < 2 ^ 47) ⊎ (2 ^ 64 - 2 ^ 47 ≤ start_of s) → (s.len ≡ 0) ⊎ (((start_of s < 2 ^ 47) × (last_of s < 2 ^ 47)) ⊎ ((2 ^ 47 ≤ start_of s) × (last_of s < 2 ^ 64))) → OneHalf s
      to (inl l) (inl z) = inl (l, inl z)
      to (inl l) (inr (inl h)) = inl (l, inr h.1)
      to (inl l) (inr (inr h)) = absurd (omega arith)
      to (inr u) (inl z) = inr (u, inl z)
      to (inr u) (inr (inl h)) = absurd (omega arith)
      to (inr u) (inr (inr h)) = inr (u, inr h.1)

      from : OneHalf s → ((start_of s < 2 ^ 47) ⊎ (2 ^ 64 - 2 ^ 47 ≤ start_of s)) × ((s.len ≡ 0) ⊎ (((start_of s < 2 ^ 47) × (last_of s < 2 ^ 47)) ⊎ ((2 ^ 47 ≤ start_of s) × (last_of s < 2 ^ 64))))
      from (inl p) = (inl p.0, ⊎_elim (λ z. inl z) (λ l. inr (inl (p.0, l))) p.1)
      from (inr p) = (inr p.0, ⊎_elim (λ z. inl z) (λ l. inr (inr (omega arith, l))) p.1)

  pub form_tells : Tells (done (form_of s)) (OneHalf s)
  form_tells = subst (λ (b : Bool). Tells b (OneHalf s)) form_test test_tells

  pub formed_half : Formed s → OneHalf s
  formed_half f = form_tells.yes (told (formed_tells s) f)

  pub half_formed : OneHalf s → Formed s
  half_formed h = (formed_tells s).yes (told form_tells h)

-- p is a part of s, neither empty
pub record Part (s p : Segment) : Type 0 where
  pub whole : s.len ≡ 0 → ⊥
  pub some : p.len ≡ 0 → ⊥
  pub from : start_of s ≤ start_of p
  pub upto : last_of p ≤ last_of s

-- a part has good form where the whole has it
pub part_formed : (s p : Segment) → Part s p → Formed s → Formed p
part_formed s p d f = half_formed p (part (formed_half s f))
  where
    within : (top : ℕ) → (s.len ≡ 0) ⊎ (last_of s < top) → last_of s < top
    within top (inl z) = absurd (d.whole z)
    within top (inr k) = k

    part : OneHalf s → OneHalf p
    part (inl q) = let k = within (2 ^ 47) q.1 in inl (omega (arith, d.upto), inr (omega (arith, d.upto)))
    part (inr q) = let k = within (2 ^ 64) q.1 in inr (omega (arith, q.0, d.from), inr (omega (arith, d.upto)))
