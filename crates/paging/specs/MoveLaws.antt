-- What the loops that move and clear a process's rows know: how many rows are moved, and all that has changed.
use Rattle.std.specs.Prelude.{◌≡◌, List, ℕ, zero, suc, ◌+◌, ◌-◌, ◌≤◌, ◌<◌, length, get_or, set}
use Rattle.std.proofs.Common.{ap, sym, subst, ◌∙◌, zero-le, arith, not-suc-le-zero, add-one, length-set}
use Rattle.std.proofs.Math.Seq.{slice, length-slice, paste, paste-zero, paste-suc}
use Rattle.model.specs.declared.Mapping.{Mapping}
use Rattle.model.specs.Layout.{word_count, machine}
use Rattle.model.specs.Machine.{no_mapping}
use Rattle.lookup.specs.LookupsLaws.{mapped_length}
use Rattle.paging.specs.ProcessRows.{rows_of, with_rows, put_rows}
use Rattle.paging.specs.ProcessRowsLaws.{rows_of_length, Rowed, rowed_first, rowed_rows, rowed_put}
use Rattle.paging.specs.PutRowsLaws.{raise_first, raise_more, paste_all, paste_past}

-- the rows at the start
abbrev at_start : List ℕ → ℕ → List Mapping
at_start w p = rows_of (machine w) p

start_length : (w : List ℕ) (p : ℕ) → p < 8 → length (at_start w p) ≡ 128
start_length w p h = rows_of_length (machine w) p h (mapped_length w)

-- ---- up, the highest first: the rows from i up to `to` are moved

abbrev pub Raised : List ℕ → ℕ → ℕ → ℕ → ℕ → List ℕ → Type 0
Raised w₀ p from to i w = (from ≤ i) × ((i ≤ to) × Rowed (machine w₀) p w (put_rows (at_start w₀ p) (suc i) (slice i to (at_start w₀ p))))

module _ (w₀ : List ℕ) (p : ℕ) (h : p < 8) (from to : ℕ) where
  pub raised_first : length w₀ ≡ word_count → from ≤ to → Raised w₀ p from to to w₀
  raised_first s k = (k, (omega arith, subst (λ t. Rowed (machine w₀) p w₀ t) (sym (raise_first (at_start w₀ p) to)) (rowed_first w₀ p h s)))

  raised_next : to < 128 → (j : ℕ) (w v : List ℕ) → Raised w₀ p from to (suc j) w → from < suc j → length v ≡ length w → machine v ≡ with_rows (machine w) p (set (rows_of (machine w) p) (suc j) (get_or (rows_of (machine w) p) j no_mapping)) → Raised w₀ p from to j v
  raised_next k j w v s m e f =
      let long = start_length w₀ p h in
      let high = s.1.0 in
      let rows = put_rows (at_start w₀ p) (suc (suc j)) (slice (suc j) to (at_start w₀ p)) in
      let same = raise_more (at_start w₀ p) to j (omega arith) (omega arith) in
      (omega arith, (omega arith, subst (λ t. Rowed (machine w₀) p v t) same (rowed_put w₀ p h w rows s.1.1 v (λ t. set t (suc j) (get_or t j no_mapping)) e f (length-set rows (suc j) (get_or rows j no_mapping) ∙ s.1.1.long))))

  pub raised_more : to < 128 → (i : ℕ) (w v : List ℕ) → Raised w₀ p from to i w → from < i → length v ≡ length w → machine v ≡ with_rows (machine w) p (set (rows_of (machine w) p) i (get_or (rows_of (machine w) p) (i - 1) no_mapping)) → Raised w₀ p from to (i - 1) v
  raised_more k zero w v s m e f = absurd (not-suc-le-zero m)
  raised_more k (suc j) w v s m e f =
      let one : suc j - 1 ≡ j = omega arith in
      subst (λ (i : ℕ). Raised w₀ p from to i v) (sym one) (raised_next k j w v s m e (f ∙ ap (λ (i : ℕ). with_rows (machine w) p (set (rows_of (machine w) p) (suc j) (get_or (rows_of (machine w) p) i no_mapping))) one))

  pub raised_all : (i : ℕ) (w : List ℕ) → Raised w₀ p from to i w → i ≤ from → machine w ≡ with_rows (machine w₀) p (put_rows (at_start w₀ p) (suc from) (slice from to (at_start w₀ p)))
  raised_all i w s d =
      let low = s.0 in
      let here : i ≡ from = omega arith in
      s.1.1.same ∙ ap (λ (j : ℕ). with_rows (machine w₀) p (put_rows (at_start w₀ p) (suc j) (slice j to (at_start w₀ p)))) here

-- ---- one after the other, the lowest first: i of n new rows are put from `at` on

abbrev pub Putting : List ℕ → ℕ → ℕ → List Mapping → ℕ → ℕ → List ℕ → Type 0
Putting w₀ p at new n i w = (i ≤ n) × Rowed (machine w₀) p w (paste (at_start w₀ p) at new i)

module _ (w₀ : List ℕ) (p : ℕ) (h : p < 8) (at : ℕ) (new : List Mapping) (n : ℕ) (sized : length new ≡ n) (fits : at + n ≤ 128) where
  pub putting_first : length w₀ ≡ word_count → Putting w₀ p at new n 0 w₀
  putting_first s = (zero-le, subst (λ t. Rowed (machine w₀) p w₀ t) (paste-zero (at_start w₀ p) at new) (rowed_first w₀ p h s))

  pub putting_more : (i : ℕ) (w v : List ℕ) (x : Mapping) → Putting w₀ p at new n i w → i < n → x ≡ get_or new i no_mapping → length v ≡ length w → machine v ≡ with_rows (machine w) p (set (rows_of (machine w) p) (at + i) x) → Putting w₀ p at new n (i + 1) v
  putting_more i w v x s m e l f =
      let long = start_length w₀ p h in
      let rows = paste (at_start w₀ p) at new i in
      let same : set rows (at + i) x ≡ paste (at_start w₀ p) at new (i + 1) = ap (λ y. set rows (at + i) y) e ∙ paste-suc (at_start w₀ p) at new i no_mapping (omega arith) (omega arith) ∙ ap (λ (j : ℕ). paste (at_start w₀ p) at new j) (sym (add-one i)) in
      (omega arith, subst (λ t. Rowed (machine w₀) p v t) same (rowed_put w₀ p h w rows s.1 v (λ t. set t (at + i) x) l f (length-set rows (at + i) x ∙ s.1.long)))

  pub putting_all : (i : ℕ) (w : List ℕ) → Putting w₀ p at new n i w → n ≤ i → machine w ≡ with_rows (machine w₀) p (put_rows (at_start w₀ p) at new)
  putting_all i w s d = s.1.same ∙ ap (λ t. with_rows (machine w₀) p t) (paste_all (at_start w₀ p) at new i (omega arith))

  -- a row at or above the place is still what it was at the start
  pub putting_row : (i from : ℕ) (w : List ℕ) → Putting w₀ p at new n i w → at ≤ from → get_or (rows_of (machine w) p) (from + i) no_mapping ≡ get_or (at_start w₀ p) (from + i) no_mapping
  putting_row i from w s k =
      let long = start_length w₀ p h in
      ap (λ t. get_or t (from + i) no_mapping) (rowed_rows w₀ p h w (paste (at_start w₀ p) at new i) s.1) ∙ paste_past (at_start w₀ p) at new i from k (omega arith) (omega arith)

-- so many rows are between two places
pub slice_sized : (w : List ℕ) (p : ℕ) → p < 8 → (from to : ℕ) → to ≤ 128 → length (slice from to (rows_of (machine w) p)) ≡ to - from
slice_sized w p h from to k = let long = start_length w p h in length-slice from to (at_start w p) (omega arith)
