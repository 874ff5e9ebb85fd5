-- Why a region is not split, test by test.
use Rattle.std.specs.Prelude.{◌≡◌, Bool, ◌&&◌, List, [], ◌∷◌, ℕ, ◌+◌, ◌≤◌, ◌<◌, eqb, ltb, Result, Ok, Err, ⊤}
use Rattle.std.proofs.Math.Path.{refl, ap}
use Rattle.std.proofs.Common.{sym, ◌∙◌, eq-eqb, ne_eqb, lt-ltb, le-ltb}
use Rattle.std.proofs.Math.Bool.{true, false, not}
use native.Mathlib.Omega.{arith}
use Rattle.answers.specs.declared.Refusal.{Refusal}
use Rattle.answers.specs.declared.Refusal.TheVariants.{EagerBacking, Shared, InUse, TableFull}
use Rattle.model.specs.declared.Region.{Region}
use Rattle.model.specs.Machine.{Machine, region_at}
use Rattle.model.specs.Answers.{first_of}
use Rattle.model.specs.Lookup.{is_ranged, is_shared, is_pinned, free_slots}
use Rattle.model.specs.Create.{one}
use Rattle.model.specs.Carve.{strictly_inside, slots_needed, split_refusals}
use Rattle.lookup.specs.FirstOfLaws.{first_here, first_later, first_none}

-- ---- how many slots

module _ (r : Region) (a e : ℕ) (n : ℕ) (first : n ≡ one (strictly_inside r a)) where
  pub needs_first : a ≡ e → n ≡ slots_needed r a e
  unfolding slots_needed
  needs_first h = first ∙ (let z : one (strictly_inside r a) ≡ one (strictly_inside r a) + 0 = omega arith in z) ∙ ap (λ (b : Bool). one (strictly_inside r a) + one b) (sym (ap (λ (b : Bool). strictly_inside r e && not b) (eq-eqb a e h) ∙ none (strictly_inside r e)))
    where
      none : (b : Bool) → (b && false) ≡ false
      none true = refl
      none false = refl

  pub needs_both : (a ≡ e → ⊥) → (k : ℕ) → k ≡ one (strictly_inside r e) → n + k ≡ slots_needed r a e
  unfolding slots_needed
  needs_both h k g = (λ i. first i + g i) ∙ ap (λ (b : Bool). one (strictly_inside r a) + one b) (sym (ap (λ (b : Bool). strictly_inside r e && not b) (ne_eqb a e h) ∙ both (strictly_inside r e)))
    where
      both : (b : Bool) → (b && true) ≡ b
      both true = refl
      both false = refl

-- ---- a range of one's own

pub eager_not : (r : Region) → (r.ranged ≡ 1 → ⊥) → false ≡ (is_ranged r && not (is_shared r))
eager_not r h = ap (λ (b : Bool). b && not (is_shared r)) (sym (ne_eqb r.ranged 1 h))

pub eager_by : (r : Region) → r.ranged ≡ 1 → not (eqb r.kind 3) ≡ (is_ranged r && not (is_shared r))
eager_by r h = ap (λ (b : Bool). b && not (is_shared r)) (sym (eq-eqb r.ranged 1 h))

-- ---- the tests in their order

module _ (m : Machine) (p s a e : ℕ) (r : Region) (read : r ≡ region_at m p s) where
  abbrev tests : Region → List (Bool × Refusal)
  tests x = (is_ranged x && not (is_shared x), EagerBacking) ∷ (is_shared x, Shared) ∷ (is_pinned x, InUse) ∷ (ltb (free_slots m p) (slots_needed x a e), TableFull) ∷ []

  told : (d : Result ⊤ Refusal) → d ≡ first_of (tests r) → d ≡ first_of (split_refusals m p s a e)
  unfolding split_refusals
  told d h = h ∙ ap (λ (x : Region). first_of (tests x)) read

  pub refused_eager : true ≡ (is_ranged r && not (is_shared r)) → Err EagerBacking ≡ first_of (split_refusals m p s a e)
  refused_eager h = told _ (first_here _ EagerBacking _ (sym h))

  module _ (h : false ≡ (is_ranged r && not (is_shared r))) where
    pub refused_shared : r.kind ≡ 3 → Err Shared ≡ first_of (split_refusals m p s a e)
    refused_shared k = told _ (first_later _ EagerBacking _ _ (sym h) (first_here _ Shared _ (eq-eqb r.kind 3 k)))

    module _ (k : r.kind ≡ 3 → ⊥) where
      pub refused_pinned : 0 < r.pins → Err InUse ≡ first_of (split_refusals m p s a e)
      refused_pinned g = told _ (first_later _ EagerBacking _ _ (sym h) (first_later _ Shared _ _ (ne_eqb r.kind 3 k) (first_here _ InUse _ (lt-ltb 0 r.pins g))))

      module _ (g : r.pins ≤ 0) (free need : ℕ) (counted : free ≡ free_slots m p) (needed : need ≡ slots_needed r a e) where
        pub refused_full : free < need → Err TableFull ≡ first_of (split_refusals m p s a e)
        refused_full f = told _ (first_later _ EagerBacking _ _ (sym h) (first_later _ Shared _ _ (ne_eqb r.kind 3 k) (first_later _ InUse _ _ (le-ltb 0 r.pins g) (first_here _ TableFull _ ((λ i. ltb (sym counted i) (sym needed i)) ∙ lt-ltb free need f)))))

        pub not_refused : need ≤ free → Ok tt ≡ first_of (split_refusals m p s a e)
        not_refused f = told _ (first_later _ EagerBacking _ _ (sym h) (first_later _ Shared _ _ (ne_eqb r.kind 3 k) (first_later _ InUse _ _ (le-ltb 0 r.pins g) (first_later _ TableFull _ _ ((λ i. ltb (sym counted i) (sym needed i)) ∙ le-ltb free need f) first_none))))
