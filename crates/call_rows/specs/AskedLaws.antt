-- Laws of `Asked`: the ways to the call that words name.
use Rattle.std.specs.Prelude.{◌≡◌, refl, Bool, true, false, cond, List, [], ◌∷◌, ℕ, zero, suc, ◌-◌, ◌≤◌, eqb, leb, length, get_or, drop, Option, None}
use Rattle.std.proofs.Common.{ap, ◌∙◌, zero-le, arith, eqb-true, eq-eqb, ne_eqb, leb-true}
use Rattle.std.proofs.lemmas.Bool.{false≢true}
use Rattle.model.specs.declared.Call.{Call}
use Rattle.laws.specs.BoolLaws.{both_true}
use Rattle.laws.specs.Lists.{pad, all}
use Rattle.call_words.specs.CallOf as words
use Rattle.call_words.specs.CallOf.{call_of, count_of}
use Rattle.call_rows.specs.Asked.{call_in, starts_with}
use Rattle.call_rows.specs.BehindLaws.{behind, behind_all}

-- ---- the words

pub starts_none : (l : List ℕ) → length l ≡ 0 → false ≡ starts_with l
starts_none [] e = refl
starts_none (x ∷ l) e = absurd (omega arith)

pub starts_at : (l : List ℕ) → (length l ≡ 0 → ⊥) → eqb (get_or l 0 0) 0 ≡ starts_with l
starts_at [] k = absurd (k refl)
starts_at (x ∷ l) k = refl

pub started : (l : List ℕ) → starts_with l ≡ true → 1 ≤ length l
started [] e = absurd (false≢true e)
started (x ∷ l) e = omega arith

pub started_is : (l : List ℕ) → starts_with l ≡ true → l ≡ 0 ∷ drop 1 l
started_is [] e = absurd (false≢true e)
started_is (x ∷ l) e = ap (λ (n : ℕ). n ∷ l) (eqb-true x 0 e)

pub behind_started : (l : List ℕ) → starts_with l ≡ true → behind l ≡ drop 1 l
behind_started [] e = absurd (false≢true e)
behind_started (x ∷ l) e = behind_all x l

pub in_none : (l : List ℕ) → length l ≡ 0 → None ≡ call_in l
unfolding call_in
in_none [] e = refl
in_none (x ∷ l) e = absurd (omega arith)

pub in_other : (l : List ℕ) → (length l ≡ 0 → ⊥) → (length l - 1 ≡ count_of (get_or l 0 0) → ⊥) → None ≡ call_in l
unfolding call_in
in_other [] h k = absurd (h refl)
in_other (x ∷ l) h k =
    let other : length l ≡ count_of x → ⊥ = λ e. k ((let z : length (x ∷ l) - 1 ≡ length l = omega arith in z) ∙ e) in
    rw (ne_eqb (length l) (count_of x) other) refl

pub in_call : (l : List ℕ) → (length l ≡ 0 → ⊥) → length l - 1 ≡ count_of (get_or l 0 0) → (args : List ℕ) (r : Option Call) → args ≡ pad 10 0 (behind l) → r ≡ call_of (get_or l 0 0) args → r ≡ call_in l
unfolding call_in
in_call [] h e args r p q = absurd (h refl)
in_call (x ∷ l) h e args r p q =
    let same : length l ≡ count_of x = (let z : length l ≡ length (x ∷ l) - 1 = omega arith in z) ∙ e in
    rw (eq-eqb (length l) (count_of x) same) (q ∙ ap (λ (t : List ℕ). call_of x t) (p ∙ ap (λ (t : List ℕ). pad 10 0 t) (behind_all x l)))

at_most : (k : ℕ) (l : List ℕ) → all (λ x. leb x k) l ≡ true → (n : ℕ) → get_or l n 0 ≤ k
unfolding all
at_most k [] e n = zero-le
at_most k (x ∷ l) e zero = leb-true x k (both_true (leb x k) (all (λ x. leb x k) l) e).0
at_most k (x ∷ l) e (suc n) = at_most k l (both_true (leb x k) (all (λ x. leb x k) l) e).1 n

ten : (n : ℕ) → count_of n ≤ 10
unfolding count_of all
ten n = at_most 10 words.counts refl n

pub few : (l : List ℕ) (n : ℕ) → (length l ≡ 0 → ⊥) → length l - 1 ≡ count_of n → length (behind l) ≤ 10
few [] n h e = absurd (h refl)
few (x ∷ l) n h e = let t : count_of n ≤ 10 = ten n in rw (behind_all x l) (omega arith)

-- start is no call of the numbering
pub starts_no_call : (rows : List ℕ) → call_in (0 ∷ rows) ≡ None
unfolding call_in call_of
starts_no_call rows = pick (eqb (length rows) (count_of 0))
  where
    pick : (t : Bool) → ◌≡◌ {A = Option Call} (cond t None None) None
    pick true = refl
    pick false = refl
