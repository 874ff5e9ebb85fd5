-- A held segment's lower part put into its row: the table stays in list order, as if the segment were taken out and the part put in.
use Rattle.std.specs.Prelude.{◌≡◌, ◌⊎◌, true, false, length, get_or, set, drop}
use Rattle.std.proofs.Math.Path.{refl}
use Rattle.std.proofs.Common.{ap, sym, subst, ◌∙◌, inl, inr, le_of_suc-le-suc, not-suc-le-zero, arith, length-set, take-append-drop}
use mathlib.Core.List.{List, [], ◌∷◌, ◌++◌}
use Prim.Native.Nat.{ℕ, zero, suc, ◌≤◌, ◌<◌}
use Rattle.std.proofs.lemmas.List.{set-append_left}
use Rattle.laws.specs.TellsLaws.{told, not_told}
use Rattle.segment.specs.declared.Segment.{Segment}
use Rattle.segment.specs.Form.{start_of, last_of, beforeb, Before}
use Rattle.segment.specs.FormLaws.{before_tells}
use Rattle.segments.specs.declared.table.VirtualMemoryManager.{VirtualMemoryManager}
use Rattle.segments.specs.Table.{held, stored, no_segment, All, Pairs, Apart, insert, removed_at}
use Rattle.segments.specs.HeldLoopLaws.{held_length}
use Rattle.segments.specs.InsertLaws.{length_insert}
use Rattle.segments.specs.PositionLaws.{held_stored, stored_stored}
use Rattle.segments_lent.specs.LentWords.{row_put}

all_at : (P : Segment → Type 0) (t : List Segment) (k : ℕ) → k < length t → All P t → P (get_or t k no_segment)
all_at P [] k h a = absurd (not-suc-le-zero h)
all_at P (x ∷ t) zero h a = a.0
all_at P (x ∷ t) (suc k) h a = all_at P t k (le_of_suc-le-suc h) a.1

-- p starts where s does, is shorter and not empty
module _ (s p : Segment) (starts : start_of p ≡ start_of s) (some : 0 < p.len) (less : p.len < s.len) where
  -- what comes after s comes after p
  after : (y : Segment) → Apart s y → beforeb y p ≡ false
  after y a = not_told (before_tells y p) (no_before a.order)
    where
      no_before : Before s y → Before y p → ⊥
      no_before (inl l) (inl k) = omega arith
      no_before (inl l) (inr k) = omega (arith, k.0)
      no_before (inr l) (inl k) = omega (arith, l.0)
      no_before (inr l) (inr k) = omega (arith, l.1, k.1)

  -- what comes before s comes before p
  before : (x : Segment) → Apart x s → beforeb x p ≡ true
  before x a = told (before_tells x p) (by a.order a.clear)
    where
      by : Before x s → (x.len ≡ 0) ⊎ ((s.len ≡ 0) ⊎ (last_of x < start_of s)) → Before x p
      by (inl l) c = inl (omega arith)
      by (inr l) (inl z) = inr (l.0 ∙ sym starts, omega arith)
      by (inr l) (inr (inl z)) = absurd (omega arith)
      by (inr l) (inr (inr k)) = absurd (omega (arith, l.0))

  put_part : (t : List Segment) (k : ℕ) → k < length t → Pairs Apart t → get_or t k no_segment ≡ s → insert p (removed_at k t) ≡ set t k p
  unfolding insert
  put_part [] k h a e = absurd (not-suc-le-zero h)
  put_part (x ∷ []) zero h a e = refl
  put_part (x ∷ y ∷ t) zero h a e = rw (after y (subst (λ (z : Segment). Apart z y) e a.0.0))
  put_part (x ∷ t) (suc k) h a e =
      rw (before x (subst (λ (z : Segment). Apart x z) e (all_at (Apart x) t k (le_of_suc-le-suc h) a.0)))
      (ap (λ (l : List Segment). x ∷ l) (put_part t k (le_of_suc-le-suc h) a.1 e))

  module _ (m : VirtualMemoryManager) (sized : length m.segments ≡ 64) (most : m.count ≤ 64) (k : ℕ) (below : k < m.count) where
    inside : k < length (held m)
    inside = rw (held_length m sized most) below

    -- one row put is one row of the held ones put
    row_held : row_put m k p ≡ stored m (set (held m) k p)
    row_held = λ i. record {
      mem_start = m.mem_start;
      mem_size = m.mem_size;
      count = sym length_is i;
      segments = rows i;
    }
      where
        length_is : length (set (held m) k p) ≡ m.count
        length_is = length-set (held m) k p ∙ held_length m sized most

        rows : set m.segments k p ≡ set (held m) k p ++ drop (length (set (held m) k p)) m.segments
        rows =
            ap (λ (t : List Segment). set t k p) (sym (take-append-drop m.count m.segments))
            ∙ set-append_left (held m) (drop m.count m.segments) k p inside
            ∙ ap (λ (n : ℕ). set (held m) k p ++ drop n m.segments) (sym length_is)

    pub part_put : Pairs Apart (held m) → get_or (held m) k no_segment ≡ s
        → row_put m k p ≡ stored (stored m (removed_at k (held m))) (insert p (held (stored m (removed_at k (held m)))))
    part_put a e =
        row_held
        ∙ ap (λ (t : List Segment). stored m t) (sym (put_part (held m) k inside a e))
        ∙ sym (stored_stored m (removed_at k (held m)) (insert p (removed_at k (held m))) (let l = length_insert p (removed_at k (held m)) in omega arith))
        ∙ ap (λ (t : List Segment). stored (stored m (removed_at k (held m))) (insert p t)) (sym (held_stored m (removed_at k (held m))))
