-- What the tests inside the calls tell: a segment is held, a held one overlaps it, a page starts strictly inside it; and what a split makes.
use Rattle.std.specs.Prelude.{◌≡◌, refl, ◌⊎◌, List, [], ◌∷◌, ℕ, ◌+◌, ◌-◌, ◌%◌, ◌<◌}
use Rattle.std.proofs.Common.{ap, inl, inr, ⊎_elim, arith}
use Rattle.address.specs.declared.VirtAddr.{VirtAddr}
use Rattle.laws.specs.Tells.{Tells}
use Rattle.laws.specs.TellsLaws.{tells_both}
use Rattle.segment.specs.declared.Segment.{Segment}
use Rattle.segment.specs.Form.{start_of, last_of, overb, Over}
use Rattle.segment.specs.FormLaws.{same_tells, over_tells, same_is}
use Rattle.laws.specs.TestLaws.{tells_eq, tells_lt, tells_not, tells_or, tells_as}
use Rattle.segments.specs.Table.{heldb}
use Rattle.segment_search.specs.Search.{first_over}
use Rattle.segments.specs.Calls.{is_in, overlapsb, insideb, low, high}
use Rattle.segment_search.specs.TriesLaws.{by_test}

-- one row of a list
abbrev pub Any : (Segment → Type 0) → List Segment → Type 0
Any P [] = ⊥
Any P (s ∷ t) = P s ⊎ Any P t

pub held_tells : (s : Segment) (t : List Segment) → Tells (heldb s t) (Any (λ x. x ≡ s) t)
unfolding heldb
held_tells s [] = record { yes = λ e. mathlib.Core.Bool.false≢true e; no = λ e p. p }
held_tells s (x ∷ t) = tells_or (tells_as (same_is x s) (λ p. record { starts = ap start_of p; lens = ap (λ y. y.len) p }) (same_tells x s)) (held_tells s t)

first_tells : (first last : ℕ) (t : List Segment) → Tells (is_in (first_over t first last)) (Any (λ x. Over x first last) t)
unfolding first_over
first_tells first last [] = record { yes = λ e. mathlib.Core.Bool.false≢true e; no = λ e p. p }
first_tells first last (x ∷ t) =
    by_test (overb x first last) (λ e. rw e (record { yes = λ y. inl ((over_tells x first last).yes e); no = λ n. absurd (mathlib.Core.Bool.true≢false n) }))
    (λ e. rw e (tells_as (λ p. inr p) (⊎_elim (λ o. absurd ((over_tells x first last).no e o)) (λ p. p)) (first_tells first last t)))

-- empty segments never overlap (RULES S10)
pub overlaps_tells : (s : Segment) (t : List Segment) → Tells (overlapsb t s) ((s.len ≡ 0 → ⊥) × Any (λ x. Over x (start_of s) (last_of s)) t)
unfolding overlapsb
overlaps_tells s t = tells_both (tells_not (tells_eq s.len 0)) (first_tells (start_of s) (last_of s) t)

-- a page starts at `at`, strictly inside the segment
pub record Inside (s : Segment) (at : ℕ) : Type 0 where
  pub page : at % 4096 ≡ 0
  pub above : start_of s < at
  pub below : at < start_of s + s.len

pub inside_tells : (s : Segment) (at : VirtAddr) → Tells (insideb s at) (Inside s at.0)
unfolding insideb
inside_tells s at =
    tells_as (λ p. record { page = p.0; above = p.1.0; below = omega (arith, p.1) })
    (λ i. (i.page, (i.above, omega (arith, i)))) (tells_both (tells_eq (at.0 % 4096) 0) (tells_both (tells_lt (start_of s) at.0) (tells_lt (at.0 - start_of s) s.len)))

-- the two parts meet at the point, neither is empty, and together they are the segment
pub record Parts (s a b : Segment) (at : ℕ) : Type 0 where
  pub first : start_of a ≡ start_of s
  pub meet : start_of a + a.len ≡ at
  pub second : start_of b ≡ at
  pub whole : a.len + b.len ≡ s.len
  pub low_some : 0 < a.len
  pub high_some : 0 < b.len

pub split_parts : (s : Segment) (at : VirtAddr) → Inside s at.0 → Parts s (low s at) (high s at) at.0
split_parts s at i = record { first = refl; meet = omega (arith, i); second = refl; whole = omega (arith, i); low_some = omega (arith, i); high_some = omega (arith, i) }
