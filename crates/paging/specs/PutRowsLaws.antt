-- Laws of rows put from a place on: one after the other in a loop, one before or behind others, and the length.
use Rattle.std.specs.Prelude.{◌≡◌, get_or, set}
use Rattle.std.proofs.Math.Path.{ap}
use Rattle.std.proofs.Common.{sym, ◌∙◌, add_assoc, length-drop, get_or-drop, take_at, drop_at}
use mathlib.Core.List.{List, [], ◌∷◌, ◌++◌, append_assoc}
use Prim.Native.Nat.{ℕ, suc, ◌+◌, ◌-◌, ◌≤◌, ◌<◌}
use native.Mathlib.Omega.{arith}
use Rattle.std.proofs.Math.ListN.{length, take, drop, length-append, length-take, take-append-drop, get_or-append}
use Rattle.std.proofs.Math.Seq.{slice, slice-cons, slice_empty, length-slice, paste, take-length, length-take-le, get_or-take, drop-drop, set-append_left, take-set-lt, take-suc-set}
use Rattle.std.proofs.lemmas.List.Edits.{drop-paste}
use Rattle.model.specs.declared.Mapping.{Mapping}
use Rattle.model.specs.Machine.{no_mapping}
use Rattle.paging.specs.ProcessRows.{put_rows}

module _ (l : List Mapping) where
  pub put_length : (at : ℕ) (new : List Mapping) → at + length new ≤ length l → length (put_rows l at new) ≡ length l
  unfolding put_rows
  put_length at new h = simp (length-append, length-take, length-drop) (omega arith)

  pub put_none : (at : ℕ) → put_rows l at [] ≡ l
  unfolding put_rows
  put_none at = let z : at + 0 ≡ at = omega arith in ap (λ (i : ℕ). take at l ++ drop i l) z ∙ take-append-drop at l

  -- rows below the place stay
  put_before : (at : ℕ) (new : List Mapping) (i : ℕ) → i < at → at ≤ length l → get_or (put_rows l at new) i no_mapping ≡ get_or l i no_mapping
  unfolding put_rows
  put_before at new i h k =
      let long = length-take-le at l k in
      get_or-append (take at l) (new ++ drop (at + length new) l) no_mapping i (rw long h) ∙ get_or-take at l i no_mapping h

  -- one row put just before others
  pub put_front : (at : ℕ) (new : List Mapping) (x : Mapping) → at < length l → set (put_rows l (suc at) new) at x ≡ put_rows l at (x ∷ new)
  unfolding put_rows
  put_front at new x h =
      let long = length-take-le (suc at) l h in
      let same : suc at + length new ≡ at + suc (length new) = omega arith in
      set-append_left (take (suc at) l) (new ++ drop (suc at + length new) l) at x (rw long (omega arith))
      ∙ ap (λ t. t ++ (new ++ drop (suc at + length new) l)) (sym (take-set-lt (suc at) l at x (omega arith)) ∙ take-suc-set l at x h)
      ∙ append_assoc (take at l) (x ∷ []) (new ++ drop (suc at + length new) l)
      ∙ ap (λ (i : ℕ). take at l ++ (x ∷ (new ++ drop i l))) same

  -- ---- rows moved up by one, the highest first

  pub raise_first : (to : ℕ) → put_rows l (suc to) (slice to to l) ≡ l
  raise_first to = ap (λ t. put_rows l (suc to) t) (slice_empty to l) ∙ put_none (suc to)

  pub raise_more : (to i : ℕ) → i < to → to < length l → set (put_rows l (suc (suc i)) (slice (suc i) to l)) (suc i) (get_or (put_rows l (suc (suc i)) (slice (suc i) to l)) i no_mapping) ≡ put_rows l (suc i) (slice i to l)
  raise_more to i h k =
      ap (λ x. set (put_rows l (suc (suc i)) (slice (suc i) to l)) (suc i) x) (put_before (suc (suc i)) (slice (suc i) to l) i (omega arith) (omega arith))
      ∙ put_front (suc i) (slice (suc i) to l) (get_or l i no_mapping) (omega arith)
      ∙ ap (λ t. put_rows l (suc i) t) (sym (slice-cons i to l no_mapping h (omega arith)))

  pub raise_length : (to i : ℕ) → i ≤ to → to < length l → length (put_rows l (suc i) (slice i to l)) ≡ length l
  raise_length to i h k = let long = length-slice i to l (omega arith) in put_length (suc i) (slice i to l) (omega arith)

  -- ---- rows put one after the other, the lowest first

  pub paste_all : (at : ℕ) (new : List Mapping) (i : ℕ) → i ≡ length new → paste l at new i ≡ put_rows l at new
  unfolding put_rows
  paste_all at new i e = rw (e, take-length new) (append_assoc (take at l) new (drop (at + length new) l))

  -- rows from a place on that is not below are still to be read
  pub paste_past : (at : ℕ) (new : List Mapping) (i from : ℕ) → at ≤ from → at ≤ length l → i ≤ length new → get_or (paste l at new i) (from + i) no_mapping ≡ get_or l (from + i) no_mapping
  paste_past at new i from h k n =
      let here : from + i ≡ at + i + (from - at) = omega arith in
      ap (λ (j : ℕ). get_or (paste l at new i) j no_mapping) here
      ∙ sym (get_or-drop (at + i) (paste l at new i) (from - at) no_mapping)
      ∙ ap (λ t. get_or t (from - at) no_mapping) (drop-paste l at new i k n)
      ∙ get_or-drop (at + i) l (from - at) no_mapping
      ∙ ap (λ (j : ℕ). get_or l j no_mapping) (sym here)

  pub slice_row : (from to i : ℕ) → from + i < to → get_or (slice from to l) i no_mapping ≡ get_or l (from + i) no_mapping
  slice_row from to i h = get_or-drop from (take to l) i no_mapping ∙ get_or-take to l (from + i) no_mapping h

  -- rows put behind rows that were put
  pub put_behind : (at : ℕ) (a b : List Mapping) (here : ℕ) → here ≡ at + length a → at + length a ≤ length l → put_rows (put_rows l at a) here b ≡ put_rows l at (a ++ b)
  unfolding put_rows
  put_behind at a b here e h =
      let front : List Mapping = take at l ++ a in
      let rest : List Mapping = drop (at + length a) l in
      let long : length front ≡ here = simp (length-append, length-take) (omega arith) in
      ap (λ t. take here t ++ (b ++ drop (here + length b) t)) (sym (append_assoc (take at l) a rest))
      ∙ ap (λ t. t ++ (b ++ drop (here + length b) (front ++ rest))) (take_at front rest here long)
      ∙ ap (λ t. front ++ (b ++ t)) (sym (drop-drop (length b) here (front ++ rest)) ∙ ap (λ t. drop (length b) t) (drop_at front rest here long))
      ∙ simp (append_assoc, drop-drop, length-append, add_assoc)
