-- Rows that are some mapped ones and free ones after them: read, and what a row put in, rows taken out or one changed make of them.
use Rattle.std.specs.Prelude.{◌≡◌, set, replicate}
use Rattle.std.proofs.Math.Path.{ap, sym}
use Rattle.std.proofs.Common.{◌∙◌, length-append, length-set, drop_at, take_at}
use mathlib.Core.List.{List, ◌∷◌, ◌++◌, append_assoc}
use Prim.Native.Nat.{ℕ, suc, ◌+◌, ◌-◌, ◌≤◌, ◌<◌}
use native.Mathlib.Omega.{arith}
use Rattle.std.proofs.Math.ListN.{length, take, drop, length-take, length-drop}
use Rattle.std.proofs.lemmas.List.{length-replicate, replicate-append-replicate, take-append-le, set-append_left}
use Rattle.std.proofs.Math.Seq.{slice, drop-append-add}
use Rattle.model.specs.declared.Mapping.{Mapping}
use Rattle.laws.specs.Lists.{pad}
use Rattle.laws.specs.ListsLaws.{pad_rest}
use Rattle.model.specs.Machine.{no_mapping}
use Rattle.paging.specs.ProcessRows.{put_rows, row_put, rows_taken}

abbrev free : ℕ → List Mapping
free n = replicate n no_mapping

pad_is : (k : ℕ) (l : List Mapping) (j : ℕ) → k ≡ length l + j → pad k no_mapping l ≡ l ++ free j
pad_is k l j e = let rest : k - length l ≡ j = omega arith in sym (pad_rest k no_mapping l (omega arith)) ∙ ap (λ (n : ℕ). l ++ free n) rest

module _ (l : List Mapping) where
  pub put_in_pad : (k at n : ℕ) (x : Mapping) → n ≡ length l → at ≤ n → n < k → row_put (pad k no_mapping l) at n x ≡ pad k no_mapping (take at l ++ (x ∷ drop at l))
  unfolding row_put put_rows
  put_in_pad k at n x e h m =
      let j : ℕ = k - suc n in
      let cut : length (drop at l) ≡ n - at = simp length-drop (omega arith) in
      let past : at + suc (length (drop at l)) ≡ length l + 1 = omega arith in
      let long : length (take at l ++ (x ∷ drop at l)) ≡ suc n = simp (length-append, length-take, length-drop) (omega arith) in
      ap (λ t. take at t ++ ((x ∷ slice at n t) ++ drop (at + suc (length (slice at n t))) t)) (pad_is k l (suc j) (omega arith))
      ∙ ap (λ t. t ++ ((x ∷ slice at n (l ++ free (suc j))) ++ drop (at + suc (length (slice at n (l ++ free (suc j))))) (l ++ free (suc j)))) (take-append-le at l (free (suc j)) (omega arith))
      ∙ ap (λ t. take at l ++ ((x ∷ drop at t) ++ drop (at + suc (length (drop at t))) (l ++ free (suc j)))) (take_at l (free (suc j)) n (sym e))
      ∙ ap (λ (i : ℕ). take at l ++ ((x ∷ drop at l) ++ drop i (l ++ free (suc j)))) past
      ∙ ap (λ t. take at l ++ ((x ∷ drop at l) ++ t)) (drop-append-add l (free (suc j)) 1)
      ∙ sym (append_assoc (take at l) (x ∷ drop at l) (free j))
      ∙ sym (pad_is k (take at l ++ (x ∷ drop at l)) j (omega arith))

  pub take_out_of_pad : (k from to n : ℕ) → n ≡ length l → from ≤ to → to ≤ n → n ≤ k → rows_taken (pad k no_mapping l) from to n ≡ pad k no_mapping (take from l ++ drop to l)
  unfolding rows_taken put_rows
  take_out_of_pad k from to n e h i m =
      let j : ℕ = k - n in
      let moved : List Mapping = drop to l ++ free (to - from) in
      let past : from + length moved ≡ n = simp (length-append, length-drop, length-replicate) (omega arith) in
      let long : length (take from l ++ drop to l) ≡ from + (n - to) = simp (length-append, length-take, length-drop) (omega arith) in
      ap (λ t. take from t ++ ((slice to n t ++ free (to - from)) ++ drop (from + length (slice to n t ++ free (to - from))) t)) (pad_is k l j (omega arith))
      ∙ ap (λ t. t ++ ((slice to n (l ++ free j) ++ free (to - from)) ++ drop (from + length (slice to n (l ++ free j) ++ free (to - from))) (l ++ free j))) (take-append-le from l (free j) (omega arith))
      ∙ ap (λ t. take from l ++ ((drop to t ++ free (to - from)) ++ drop (from + length (drop to t ++ free (to - from))) (l ++ free j))) (take_at l (free j) n (sym e))
      ∙ ap (λ (s : ℕ). take from l ++ (moved ++ drop s (l ++ free j))) past
      ∙ ap (λ t. take from l ++ (moved ++ t)) (drop_at l (free j) n (sym e))
      ∙ ap (λ t. take from l ++ t) (append_assoc (drop to l) (free (to - from)) (free j) ∙ ap (λ t. drop to l ++ t) (replicate-append-replicate (to - from) j no_mapping))
      ∙ sym (append_assoc (take from l) (drop to l) (free (to - from + j)))
      ∙ sym (pad_is k (take from l ++ drop to l) (to - from + j) (omega arith))

  pub set_in_pad : (k i : ℕ) (x : Mapping) → i < length l → length l ≤ k → set (pad k no_mapping l) i x ≡ pad k no_mapping (set l i x)
  set_in_pad k i x h m =
      let same = length-set l i x in
      ap (λ t. set t i x) (pad_is k l (k - length l) (omega arith)) ∙ set-append_left l (free (k - length l)) i x h ∙ sym (pad_is k (set l i x) (k - length l) (omega arith))
