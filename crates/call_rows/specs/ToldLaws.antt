-- Laws of `Told`: an answer's first value, and the words of a whole answer.
use Rattle.std.specs.Prelude.{◌≡◌, refl, false, ℕ, zero, suc, length, get_or, take, drop, replicate, Result, Ok, Err, ⊤, true}
use Rattle.std.proofs.Common.{sym, ◌∙◌, arith, length-take-le}
use Rattle.std.proofs.Math.Path.{ap}
use mathlib.Core.List.{List, [], ◌∷◌, ◌++◌}
use Rattle.std.proofs.Math.ListN.{set}
use Rattle.answers.specs.declared.Refusal.{Refusal}
use Rattle.laws.specs.Lists.{pad}
use Rattle.model.specs.declared.Answer.{Answer}
use Rattle.model.specs.declared.Answer.TheVariants as says
use Rattle.model.specs.Meant.{reply, counts}
use Rattle.call_rows.specs.Told.{first_value}

-- one word written into one
pub one_word : (out : List ℕ) (v : ℕ) → length out ≡ 1 → set out 0 v ≡ v ∷ []
one_word [] v e = let z : ◌≡◌ {A = ℕ} 0 1 = e in absurd (omega arith)
one_word (x ∷ []) v e = refl
one_word (x ∷ y ∷ l) v e = absurd (omega arith)

-- ---- an answer's first value

pub first_length : (out : List ℕ) → length out ≡ 65 → length (take 1 out) ≡ 1
first_length out h = length-take-le 1 out (omega arith)

one_first : (v out : List ℕ) → length v ≡ 1 → length out ≡ 65 → v ++ drop 1 out ≡ set out 0 (get_or v 0 0)
one_first [] out e h = let z : ◌≡◌ {A = ℕ} 0 1 = e in absurd (omega arith)
one_first (x ∷ y ∷ l) out e h = absurd (omega arith)
one_first (x ∷ []) [] e h = let z : ◌≡◌ {A = ℕ} 0 65 = h in absurd (omega arith)
one_first (x ∷ []) (y ∷ l) e h = refl

pub done_first : (r : Result ⊤ Refusal) → 0 ≡ first_value (says.Done r)
unfolding first_value reply
done_first (Ok tt) = refl
done_first (Err why) = refl

module _ (x y : Answer) (same : x ≡ y) (n : ℕ) (number : n ≡ (reply y []).number) (out : List ℕ) where
  -- written by the call's own teller, lent the first word
  pub told_first : (v : List ℕ) → length out ≡ 65 → length v ≡ length (take 1 out) → v ≡ (reply y []).values → (n ≡ (reply x []).number) × (v ++ drop 1 out ≡ set out 0 (first_value x))
  unfolding first_value
  told_first v h k q =
      (number ∙ ap (λ (z : Answer). (reply z []).number) (sym same), one_first v out (k ∙ first_length out h) h ∙ ap (λ (l : List ℕ). set out 0 (get_or l 0 0)) (q ∙ ap (λ (z : Answer). (reply z []).values) (sym same)))

  -- or by a store
  pub told_set : (v : ℕ) (out' : List ℕ) → out' ≡ set out 0 v → v ≡ first_value y → (n ≡ (reply x []).number) × (out' ≡ set out 0 (first_value x))
  told_set v out' q p =
      (number ∙ ap (λ (z : Answer). (reply z []).number) (sym same), q ∙ ap (λ (k : ℕ). set out 0 k) (p ∙ ap (λ (z : Answer). first_value z) (sym same)))

-- ---- the words of an answer

pad_full : (l : List ℕ) (n : ℕ) → length l ≡ n → pad n 0 l ≡ l
unfolding pad
pad_full [] zero e = refl
pad_full [] (suc n) e = absurd (omega arith)
pad_full (x ∷ l) zero e = absurd (omega arith)
pad_full (x ∷ l) (suc n) e = ap (λ (t : List ℕ). x ∷ t) (pad_full l n (omega arith))

-- the first value, then zeros or the starts
pub told_list : (x : Answer) (l : List ℕ) → length l ≡ 64 → (counts x ≡ false → l ≡ replicate 64 0) → first_value x ∷ l ≡ pad 65 0 (reply x l).values
unfolding first_value reply counts pad
told_list (says.Done (Ok tt)) l h z = ap (λ (t : List ℕ). 0 ∷ t) (z refl)
told_list (says.Done (Err why)) l h z = ap (λ (t : List ℕ). 0 ∷ t) (z refl)
told_list (says.Opened (Ok p)) l h z = ap (λ (t : List ℕ). p ∷ t) (z refl)
told_list (says.Opened (Err why)) l h z = ap (λ (t : List ℕ). 0 ∷ t) (z refl)
told_list (says.Placed (Ok a)) l h z = ap (λ (t : List ℕ). a.0 ∷ t) (z refl)
told_list (says.Placed (Err why)) l h z = ap (λ (t : List ℕ). 0 ∷ t) (z refl)
told_list (says.Covering (Ok true)) l h z = ap (λ (t : List ℕ). 1 ∷ t) (z refl)
told_list (says.Covering (Ok false)) l h z = ap (λ (t : List ℕ). 0 ∷ t) (z refl)
told_list (says.Covering (Err why)) l h z = ap (λ (t : List ℕ). 0 ∷ t) (z refl)
told_list (says.Loaded (Ok b)) l h z = ap (λ (t : List ℕ). b ∷ t) (z refl)
told_list (says.Loaded (Err why)) l h z = ap (λ (t : List ℕ). 0 ∷ t) (z refl)
told_list (says.Counted r) l h z = ap (λ (t : List ℕ). r.count ∷ t) (sym (pad_full l 64 h))

pub number_alone : (x : Answer) (l : List ℕ) → (reply x []).number ≡ (reply x l).number
unfolding reply
number_alone (says.Done r) l = refl
number_alone (says.Opened r) l = refl
number_alone (says.Placed r) l = refl
number_alone (says.Covering r) l = refl
number_alone (says.Loaded r) l = refl
number_alone (says.Counted r) l = refl
