-- The words of a row as they are put: its number, its first value, and what stands behind, which is lent.
use Rattle.std.specs.Prelude.{◌≡◌, refl, List, [], ◌∷◌, ◌++◌, ℕ, suc, ◌+◌, ◌-◌, ◌≤◌, length, set, take, drop, replicate}
use Rattle.std.proofs.Common.{ap, sym, ◌∙◌, append-nil, arith, length-set, length-drop, drop_of_length-le, length-take-le}
use Rattle.call_rows.specs.BehindLaws.{behind, with_behind, behind_all, set_with_behind}

-- what stands behind two words
abbrev pub behind_two : List ℕ → List ℕ
behind_two row = take (length row - 2) (drop 2 row)

abbrev pub with_behind_two : List ℕ → List ℕ → List ℕ
with_behind_two row l = take 2 row ++ (l ++ drop (length row - 2) (drop 2 row))

two_more : (x y : ℕ) (l m : List ℕ) → with_behind_two (x ∷ y ∷ l) m ≡ x ∷ y ∷ m
two_more x y l m =
    let n : length (x ∷ y ∷ l) - 2 ≡ length l = omega arith in
    ap (λ (t : List ℕ). x ∷ y ∷ t) (ap (λ (k : ℕ). m ++ drop k l) n ∙ ap (λ (t : List ℕ). m ++ t) (drop_of_length-le l {i = length l} (omega arith)) ∙ append-nil m)

-- ---- BadTable, put

module _ (row zeros : List ℕ) (h : length row ≡ 66) (e : zeros ≡ replicate 64 0) where
  pub refusal_put : set (set (with_behind_two row zeros) 1 0) 0 1 ≡ 1 ∷ replicate 65 0
  refusal_put = go row h
    where
      go : (r : List ℕ) → length r ≡ 66 → set (set (with_behind_two r zeros) 1 0) 0 1 ≡ 1 ∷ replicate 65 0
      go [] k = let z : ◌≡◌ {A = ℕ} 0 66 = k in absurd (omega arith)
      go (x ∷ []) k = let z : ◌≡◌ {A = ℕ} 1 66 = k in absurd (omega arith)
      go (x ∷ y ∷ l) k = ap (λ (t : List ℕ). set (set t 1 0) 0 1) (two_more x y l zeros) ∙ ap (λ (t : List ℕ). 1 ∷ 0 ∷ t) e

  pub refusal_long : length (set (with_behind_two row zeros) 1 0) ≡ 66
  refusal_long = sym (length-set (set (with_behind_two row zeros) 1 0) 0 1) ∙ ap (λ (t : List ℕ). length t) refusal_put

-- ---- an answer, put over BadTable

module _ (row : List ℕ) (is : row ≡ 1 ∷ replicate 65 0) where
  pub row_long : length row ≡ 66
  row_long = ap (λ (t : List ℕ). length t) is

  pub starts_lent : behind_two row ≡ replicate 64 0
  starts_lent = ap (λ (t : List ℕ). behind_two t) is

  pub number_put : (n m : ℕ) → n ≡ m → set row 0 n ≡ m ∷ replicate 65 0
  number_put n m e = ap (λ (t : List ℕ). set t 0 n) is ∙ ap (λ (k : ℕ). k ∷ replicate 65 0) e

  module _ (starts : List ℕ) (h : length starts ≡ length (behind_two row)) where
    pub starts_long : length starts ≡ 64
    starts_long = h ∙ ap (λ (t : List ℕ). length t) starts_lent

    with_starts : with_behind_two row starts ≡ 1 ∷ 0 ∷ starts
    with_starts = ap (λ (t : List ℕ). with_behind_two t starts) is ∙ two_more 1 0 (replicate 64 0) starts

    pub lent_long : length (with_behind_two row starts) ≡ 66
    lent_long = ap (λ (t : List ℕ). length t) with_starts ∙ ap (λ (k : ℕ). suc (suc k)) starts_long

    pub out_long : length (behind (with_behind_two row starts)) ≡ 65
    out_long = ap (λ (t : List ℕ). length (behind t)) with_starts ∙ ap (λ (t : List ℕ). length t) (behind_all 1 (0 ∷ starts)) ∙ ap suc starts_long

    module _ (v : ℕ) (out : List ℕ) (e : out ≡ set (behind (with_behind_two row starts)) 0 v) where
      out_is : out ≡ v ∷ starts
      out_is = e ∙ ap (λ (t : List ℕ). set (behind t) 0 v) with_starts ∙ ap (λ (t : List ℕ). set t 0 v) (behind_all 1 (0 ∷ starts))

      pub row_put : (n m : ℕ) → n ≡ m → set (with_behind (with_behind_two row starts) out) 0 n ≡ m ∷ v ∷ starts
      row_put n m k = ap (λ (t : List ℕ). set (with_behind t out) 0 n) with_starts ∙ set_with_behind 1 (0 ∷ starts) out n ∙ ap (λ (t : List ℕ). n ∷ t) out_is ∙ ap (λ (x : ℕ). x ∷ v ∷ starts) k

      pub row_kept : (n : ℕ) → length (set (with_behind (with_behind_two row starts) out) 0 n) ≡ length row
      row_kept n = ap (λ (t : List ℕ). length t) (row_put n n refl) ∙ ap (λ (k : ℕ). suc (suc k)) starts_long ∙ sym row_long

      pub told_long : length (with_behind (with_behind_two row starts) out) ≡ 66
      told_long = sym (length-set (with_behind (with_behind_two row starts) out) 0 0) ∙ row_kept 0 ∙ row_long

-- a row among others
pub row_lent : (answers : List ℕ) (from to : ℕ) → to ≡ from + 66 → to ≤ length answers → length (take (to - from) (drop from answers)) ≡ 66
row_lent answers from to e h =
    let d : length (drop from answers) ≡ length answers - from = length-drop from answers in
    let n : to - from ≡ 66 = omega arith in
    length-take-le (to - from) (drop from answers) (omega arith) ∙ n
