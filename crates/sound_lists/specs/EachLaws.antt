-- A pass over rows by their numbers: either all of them pass a test, or one fails.
use Rattle.std.specs.Prelude.{◌≡◌, Bool, true, false, List, ℕ, ◌+◌, ◌-◌, ◌<◌, length, get_or, drop}
use Rattle.std.specs.Bool.{MatchBool}
use Rattle.std.specs.List.{range_with_len, AllWithin, HoldsAt}
use Rattle.std.proofs.Common.{sym, subst, ap, ◌∙◌, arith, length-drop}
use Rattle.std.proofs.lemmas.List.FromFn.{length-range_with_len, get_or-range_with_len}
use Rattle.laws.specs.Tells.{Tells}
use Rattle.laws.specs.TellsLaws.{told, not_told}
use Rattle.laws.specs.BoolLaws.{clash}
use Rattle.laws.specs.Tests.{all_rows, Rows}
use Rattle.laws.specs.TestLaws.{tells_rows, tells_all, tells_bool}
use Rattle.laws.specs.Lists.{all}
use Rattle.std.proofs.lemmas.List.{get_or-drop}

-- what `all` has found out of the numbers below n
abbrev pub Passed : (ℕ → Bool) → ℕ → Bool → Type 0
Passed t n r = MatchBool r (AllWithin (λ i. t i ≡ true) (range_with_len 0 n) 0 (length (range_with_len 0 n))) ((k : ℕ) × (k < length (range_with_len 0 n)) × HoldsAt (λ i. t i ≡ false) (range_with_len 0 n) k)

module _ {A : Type 0} (f : ℕ → A → Bool) (l : List A) (d : A) (n : ℕ) (sized : length l ≡ n) (t : ℕ → Bool) (same : (i : ℕ) → i < n → t i ≡ f i (get_or l i d)) where
  tells : Tells (all_rows f 0 l) (Rows d l (λ i x. f i x ≡ true))
  tells = tells_rows d f (λ i x. f i x ≡ true) (λ i x. tells_bool (f i x)) l

  number : (i : ℕ) → i < n → get_or (range_with_len 0 n) i 0 ≡ i
  number i h = get_or-range_with_len 0 n i 0 h ∙ omega arith

  -- t is the test of the row with a number
  pub every_row : (r : Bool) → Passed t n r → r ≡ all_rows f 0 l
  every_row true p = sym (told tells (λ i h. let low : i < n = omega arith in sym (same i low) ∙ subst (λ (j : ℕ). t j ≡ true) (number i low) (p i 0 (omega arith) (let s = length-range_with_len 0 n in omega arith))))
  every_row false (k, h, e) =
      let s = length-range_with_len 0 n in
      let low : k < n = omega arith in
      sym (not_told tells (λ p. clash (p k (omega arith)) (sym (same k low) ∙ subst (λ (j : ℕ). t j ≡ false) (number k low) (e 0))))

-- what `all` has found out of the numbers from k up to n
abbrev pub PassedFrom : (ℕ → Bool) → ℕ → ℕ → Bool → Type 0
PassedFrom t k n r = MatchBool r (AllWithin (λ i. t i ≡ true) (range_with_len k (n - k)) 0 (length (range_with_len k (n - k)))) ((i : ℕ) × (i < length (range_with_len k (n - k))) × HoldsAt (λ i. t i ≡ false) (range_with_len k (n - k)) i)

module _ {A : Type 0} (f : A → Bool) (l : List A) (d : A) (k n : ℕ) (sized : length l ≡ n) (t : ℕ → Bool) (same : (i : ℕ) → i < n → t i ≡ f (get_or l i d)) where
  rest : Tells (all f (drop k l)) ((i : ℕ) → i < length (drop k l) → f (get_or (drop k l) i d) ≡ true)
  rest = tells_all d f (λ x. f x ≡ true) (λ x. tells_bool (f x)) (drop k l)

  at : (i : ℕ) → k + i < n → f (get_or (drop k l) i d) ≡ t (k + i)
  at i h = ap f (get_or-drop k l i d) ∙ sym (same (k + i) h)

  -- t is the test of the row with a number
  pub every_rest : (r : Bool) → PassedFrom t k n r → r ≡ all f (drop k l)
  every_rest true p = sym (told rest (λ i h.
      let s = length-drop k l in
      let q = length-range_with_len k (n - k) in
      let low : k + i < n = omega arith in
      at i low ∙ subst (λ (j : ℕ). t j ≡ true) (get_or-range_with_len k (n - k) i 0 (omega arith)) (p i 0 (omega arith) (omega arith))))
  every_rest false (i, h, e) =
      let s = length-drop k l in
      let q = length-range_with_len k (n - k) in
      let low : k + i < n = omega arith in
      sym (not_told rest (λ p. clash (p i (omega arith)) (at i low ∙ subst (λ (j : ℕ). t j ≡ false) (get_or-range_with_len k (n - k) i 0 (omega arith)) (e 0))))
