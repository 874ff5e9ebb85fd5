-- The tries from a start on start over once for each segment passed.
use Rattle.std.proofs.Math.Path.{◌≡◌, refl, ap}
use Rattle.std.proofs.Common.{sym, subst, ◌∙◌, inl, inr, ⊎_elim, not-suc-le-zero}
use Rattle.std.specs.Prelude.{◌⊎◌, Bool, List, [], ◌∷◌, ltb, Option, Some, None}
use Rattle.std.proofs.Math.Bool.{true, false}
use Prim.Native.Nat.{ℕ, zero, suc, ◌+◌, ◌-◌, ◌≤◌, ◌<◌}
use native.Mathlib.Omega.{arith}
use Rattle.laws.specs.Tells.{Tells}
use Rattle.laws.specs.TellsLaws.{tells_both, told, not_told, tells_same}
use Rattle.laws.specs.ResultLaws.{none_not_some, some_same}
use Rattle.segment.specs.declared.Segment.{Segment}
use Rattle.segment.specs.Form.{start_of, last_of, overb, Before, Over}
use Rattle.segment.specs.FormLaws.{over_tells}
use Rattle.laws.specs.TestLaws.{tells_eq, tells_lt, tells_le, tells_not, tells_as}
use Rattle.segments.specs.Table.{All, Pairs, Apart}
use Rattle.segment_search.specs.Search.{first_over, count, ahead, try, tries}
use Rattle.segment_search.specs.TriesLaws.{by_test, first_cases, none_first, first_over_is, ahead_falls, count_yes, count_no}
use Rattle.segments.specs.RuleLaws.{all_map}
use Rattle.segments.specs.FreeStart.{passedb}
use Rattle.segments.specs.LowestTryLaws.{first_of_all, none_over, Right, tries_right}

-- ---- the restarts

abbrev Passed : ℕ → ℕ → Segment → Type 0
Passed from a s = (s.len ≡ 0 → ⊥) × ((from ≤ last_of s) × (start_of s < a))

passed_tells : (from a : ℕ) (s : Segment) → Tells (passedb from a s) (Passed from a s)
passed_tells from a s = tells_both (tells_not (tells_eq s.len 0)) (tells_both (tells_le from (last_of s)) (tells_lt (start_of s) a))

-- two tests that tell the same of every row count the same
count_same : (p q : Segment → Bool) (t : List Segment) → All (λ s. p s ≡ q s) t → count p t ≡ count q t
unfolding count
count_same p q [] h = refl
count_same p q (s ∷ t) h = rw (h.0, count_same p q t h.1)

count_none : (p : Segment → Bool) (t : List Segment) → All (λ s. p s ≡ false) t → count p t ≡ 0
unfolding count
count_none p [] h = refl
count_none p (s ∷ t) h = rw (h.0, count_none p t h.1)

module _ (start last a : ℕ) (s : Segment) (o : Over s start last) (past : start_of s + s.len ≤ a) where
  -- of another row it does not matter whether it is passed from `start` or from the end of s
  other : (x : Segment) → (Passed start a x → start_of s + s.len ≤ last_of x) → passedb start a x ≡ passedb (start_of s + s.len) a x
  other x h =
      tells_same
      (tells_as (λ p. (p.0, (h p, p.1.1))) (λ q. (q.0, (omega (arith, o.reaches, q.1.0), q.1.1))) (passed_tells start a x))
      (passed_tells (start_of s + s.len) a x)

  -- past the first in the way there is one passed less
  passed_falls : (t : List Segment) → Pairs Apart t → first_over t start last ≡ Some s → count (passedb start a) t ≡ suc (count (passedb (start_of s + s.len) a) t)
  passed_falls [] ps e = absurd (none_first start last s e)
  passed_falls (x ∷ t) ps e = ⊎_elim (λ h. here h.1) (λ h. later h.0 h.1 (passed_falls t ps.1 h.1)) (first_cases start last x t s e)
    where
      after : (x : Segment) → Apart s x → passedb start a x ≡ passedb (start_of s + s.len) a x
      after x p = other x (λ q. above q p.clear)
        where
          above : Passed start a x → (s.len ≡ 0) ⊎ ((x.len ≡ 0) ⊎ (last_of s < start_of x)) → start_of s + s.len ≤ last_of x
          above q (inl z) = absurd (o.some z)
          above q (inr (inl z)) = absurd (q.0 z)
          above q (inr (inr l)) = omega arith

      here : x ≡ s → count (passedb start a) (x ∷ t) ≡ suc (count (passedb (start_of s + s.len) a) (x ∷ t))
      here p =
          rw (p, count_yes (passedb start a) s t passed, count_no (passedb (start_of s + s.len) a) s t behind)
          (ap suc (count_same (passedb start a) (passedb (start_of s + s.len) a) t (all_map after t (subst (λ (y : Segment). All (Apart y) t) p ps.0))))
        where
          passed : passedb start a s ≡ true
          passed = told (passed_tells start a s) (o.some, (o.reaches, omega arith))

          behind : passedb (start_of s + s.len) a s ≡ false
          behind = not_told (passed_tells (start_of s + s.len) a s) (λ q. q.0 (omega (arith, q.1.0)))

      -- an earlier row that is not in the way ends below `start`
      earlier : overb x start last ≡ false → Apart x s → Passed start a x → ⊥
      earlier n p q = (over_tells x start last).no n (record { some = q.0; reaches = q.1.0; begins = begin p.order })
        where
          begin : Before x s → start_of x ≤ last
          begin (inl l) = omega (arith, o.begins)
          begin (inr l) = omega (arith, o.begins)

      later : overb x start last ≡ false → first_over t start last ≡ Some s → count (passedb start a) t ≡ suc (count (passedb (start_of s + s.len) a) t)
          → count (passedb start a) (x ∷ t) ≡ suc (count (passedb (start_of s + s.len) a) (x ∷ t))
      later n e l =
          by_test (passedb start a x) (λ y. absurd (earlier n before ((passed_tells start a x).yes y))) (λ z. rw (count_no (passedb start a) x t z, count_no (passedb (start_of s + s.len) a) x t (sym same ∙ z)) l)
        where
          before : Apart x s
          before = first_of_all start last (Apart x) t s e ps.0

          same : passedb start a x ≡ passedb (start_of s + s.len) a x
          same = other x (λ q. absurd (earlier n before q))

module _ (t : List Segment) (ps : Pairs Apart t) (last len : ℕ) where
  -- the restarts from `start` on are the segments passed from there to the answer
  pub restarts_passed : (n start r a k : ℕ) → ahead t start < n → tries n t last len start r ≡ Some (a, k) → k ≡ r + count (passedb start a) t
  unfolding tries
  restarts_passed zero start r a k h e = absurd (not-suc-le-zero h)
  restarts_passed (suc n) start r a k h e = one (restarts_passed n) (ltb last (start + (len - 1))) (first_over t start (start + (len - 1))) refl e
    where
      one : ((start r a k : ℕ) → ahead t start < n → tries n t last len start r ≡ Some (a, k) → k ≡ r + count (passedb start a) t)
          → (b : Bool) (f : Option Segment) → first_over t start (start + (len - 1)) ≡ f → try (tries n t last len) b f start r ≡ Some (a, k) → k ≡ r + count (passedb start a) t
      one again true f q e = absurd (none_not_some e)
      one again false None q e = let p = ap (λ x. x.0) (some_same e) in let l = ap (λ x. x.1) (some_same e) in omega (arith, ap (λ (y : ℕ). count (passedb start y) t) p, clear)
        where
          clear : count (passedb start start) t ≡ 0
          clear = count_none (passedb start start) t (all_map outside t (none_over start (start + (len - 1)) t q))
            where
              outside : (x : Segment) → (Over x start (start + (len - 1)) → ⊥) → passedb start start x ≡ false
              outside x f = not_told (passed_tells start start x) (λ p. f (record { some = p.0; reaches = p.1.0; begins = omega (arith, p.1.1) }))
      one again false (Some s) q e = omega (arith, again (start_of s + s.len) (r + 1) a k falls e, passed_falls start (start + (len - 1)) a s (first_over_is start (start + (len - 1)) t s q) above t ps q)
        where
          falls : ahead t (start_of s + s.len) < n
          falls = omega (arith, ahead_falls start (start + (len - 1)) t s q)

          above : start_of s + s.len ≤ a
          above = (subst (Right t last len (start_of s + s.len)) e (tries_right t last len n (start_of s + s.len) (r + 1) falls)).0
