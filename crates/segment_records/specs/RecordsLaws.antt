-- Laws of `Records`: each step as the code takes it, and what the loops leave is the by-value table's.
use Rattle.std.specs.Prelude.{◌≡◌, Bool, leb, take, set, Option, Some, None}
use Rattle.std.proofs.Math.Path.{refl, ap, sym}
use Rattle.std.proofs.Common.{◌∙◌, zero-add, le_of_suc-le-suc, not-suc-le-zero, add-one, length-append, length-drop, take-append-drop, take-suc, take_all, take-take, drop-drop, get_or-append-add, get_or-take}
use Rattle.std.proofs.Math.Bool.{true, false, cond}
use mathlib.Core.List.{[], List, ◌∷◌, ◌++◌, append_assoc}
use Prim.Native.Nat.{ℕ, zero, suc, ◌+◌, ◌-◌, ◌≤◌, ◌<◌}
use native.Mathlib.Omega.{arith}
use Rattle.std.proofs.Math.Dec.{ltb}
use Rattle.std.proofs.Math.ListN.{length, drop, get_or}
use Rattle.std.proofs.Math.Seq.{take-nil, length-take-le, get_or-append_seam, set-append_seam}
use borrow.Author.Tests.{eq-eqb, ne_eqb, lt-ltb, le-ltb, ltb-true, ltb-false, leb-true}
use Rattle.laws.specs.BoolLaws.{both_true}
use Rattle.laws.specs.Loops.{Remains}
use Rattle.laws.specs.LoopLaws.{loop_found, loop_more, loop_none}
use Rattle.segment.specs.declared.Segment.{Segment}
use Rattle.segment.specs.Form.{sameb, beforeb}
use Rattle.segments.specs.Table.{insert, removed_at, place_of, no_segment}
use Rattle.segment_records.specs.declared.by_value.Insertion.{Insertion}
use Rattle.segment_records.specs.Records.{found_in, inserted, removable, removed, turns_of, carrying_of, stays_of, carried_on, carry_over, end_of, move_down, rows_of, place_with, look_down, found_at}

-- ---- the steps

module _ (len n : ℕ) where
  pub turns_room : n < len → n + 1 ≡ turns_of len n
  turns_room h = rw (lt-ltb n len h)

  pub turns_none : len ≤ n → 0 ≡ turns_of len n
  turns_none h = rw (le-ltb n len h)

  pub rows_some : n < len → n ≡ rows_of len n
  rows_some h = rw (lt-ltb n len h)

  pub rows_all : len ≤ n → len ≡ rows_of len n
  rows_all h = rw (le-ltb n len h)

  module _ (k : ℕ) where
    pub removes_held : k < n → leb n len ≡ removable len n k
    removes_held h = rw (lt-ltb k n h)

    pub removes_past : n ≤ k → false ≡ removable len n k
    removes_past h = rw (le-ltb k n h)

    pub removable_inside : removable len n k ≡ true → (k < n) × (n ≤ len)
    removable_inside e = let b = both_true (ltb k n) (leb n len) e in (ltb-true k n b.0, leb-true n len b.1)

    module _ (r : Bool) (said : r ≡ removable len n k) where
      pub end_held : r ≡ true → n - 1 ≡ end_of len n k
      end_held e = rw (sym said, e)

      pub end_none : r ≡ false → k ≡ end_of len n k
      end_none e = rw (sym said, e)

module _ (c : Insertion) (i n : ℕ) (x : Segment) where
  pub stays_placed : c.placed ≡ true → false ≡ stays_of c i n x
  stays_placed e = rw e

  pub stays_last : c.placed ≡ false → i ≡ n → false ≡ stays_of c i n x
  stays_last e h = rw (e, eq-eqb i n h)

  pub stays_before : c.placed ≡ false → (i ≡ n → ⊥) → (r : Bool) → r ≡ beforeb x c.carry → r ≡ stays_of c i n x
  stays_before e h r p = rw (e, ne_eqb i n h, p)

  module _ (r : Bool) (said : r ≡ stays_of c i n x) where
    pub carried_stays : r ≡ true → record { row = x; carry = c.carry; placed = false } ≡ carried_on c i n x
    carried_stays e = rw (sym said, e)

    pub carried_put : r ≡ false → record { row = c.carry; carry = x; placed = true } ≡ carried_on c i n x
    carried_put e = rw (sym said, e)

module _ (at n : ℕ) where
  pub found_some : at < n → Some at ≡ found_at at n
  found_some h = rw (lt-ltb at n h)

  pub found_none : n ≤ at → None ≡ found_at at n
  found_none h = rw (le-ltb at n h)

-- ---- an insertion over rows

module _ (n : ℕ) where
  -- the same over the rows that are left
  unfoldable over : ℕ → ℕ → Insertion → List Segment → List Segment
  over zero i c t = t
  over (suc k) i c [] = []
  over (suc k) i c (x ∷ t) = (carried_on c i n x).row ∷ over k (i + 1) (carried_on c i n x) t

  over_is : (k : ℕ) (pre t : List Segment) (c : Insertion) → k ≤ length t → carry_over n k (length pre) c (pre ++ t) ≡ pre ++ over k (length pre) c t
  unfolding carry_over over
  over_is zero pre t c h = refl
  over_is (suc k) pre [] c h = absurd (not-suc-le-zero h)
  over_is (suc k) pre (x ∷ t) c h =
      ap (λ (y : Segment). carry_over n k (length pre + 1) (carried_on c (length pre) n y) (set (pre ++ x ∷ t) (length pre) (carried_on c (length pre) n y).row)) (get_or-append_seam pre x t no_segment)
      ∙ ap (carry_over n k (length pre + 1) new) (set-append_seam pre x t new.row ∙ sym (append_assoc pre (new.row ∷ []) t))
      ∙ ap (λ (j : ℕ). carry_over n k j new ((pre ++ (new.row ∷ [])) ++ t)) (sym (length-append pre (new.row ∷ [])))
      ∙ over_is k (pre ++ (new.row ∷ [])) t new (le_of_suc-le-suc h)
      ∙ ap (λ (j : ℕ). (pre ++ (new.row ∷ [])) ++ over k j new t) (length-append pre (new.row ∷ []))
      ∙ append_assoc pre (new.row ∷ []) (over k (length pre + 1) new t)
    where
      new : Insertion
      new = carried_on c (length pre) n x

  -- once the segment is placed each row moves up by one
  placed_is : (k i : ℕ) (r carry : Segment) (t : List Segment) → k ≤ length t → over k i (record { row = r; carry = carry; placed = true }) t ≡ take k (carry ∷ t) ++ drop k t
  unfolding over
  placed_is zero i r carry t h = refl
  placed_is (suc k) i r carry [] h = absurd (not-suc-le-zero h)
  placed_is (suc k) i r carry (x ∷ t) h = ap (λ l. carry ∷ l) (placed_is k (i + 1) carry x t (le_of_suc-le-suc h))

  module _ (s : Segment) where
    abbrev looking : Segment → Insertion
    looking r = record { row = r; carry = s; placed = false }

    insert_is : (j i : ℕ) (r : Segment) (t : List Segment) → i + j ≡ n → j < length t → over (suc j) i (looking r) t ≡ insert s (take j t) ++ drop (suc j) t
    unfolding over insert
    insert_is j i r [] e h = absurd (not-suc-le-zero h)
    insert_is zero i r (x ∷ t) e h = rw (eq-eqb i n (omega arith))
    insert_is (suc j) i r (x ∷ t) e h =
        ap (λ (c : Insertion). c.row ∷ over (suc j) (i + 1) c t) here
        ∙ by (beforeb x s) (insert_is j (i + 1) x t (omega arith) (le_of_suc-le-suc h)) (placed_is (suc j) (i + 1) s x t (le_of_suc-le-suc h))
      where
        go : Insertion
        go = record { row = s; carry = x; placed = true }

        here : carried_on (looking r) i n x ≡ cond (beforeb x s) (looking x) go
        here = rw (ne_eqb i n (λ f. omega arith))

        by : (b : Bool) → over (suc j) (i + 1) (looking x) t ≡ insert s (take j t) ++ drop (suc j) t → over (suc j) (i + 1) go t ≡ x ∷ take j t ++ drop (suc j) t
            → (cond b (looking x) go).row ∷ over (suc j) (i + 1) (cond b (looking x) go) t ≡ cond b (x ∷ insert s (take j t)) (s ∷ x ∷ take j t) ++ drop (suc j) t
        by true later moved = ap (λ l. x ∷ l) later
        by false later moved = ap (λ l. s ∷ l) moved

    pub insert_all : (t : List Segment) → carry_over n (turns_of (length t) n) 0 (carrying_of s) t ≡ inserted n s t
    unfolding carry_over
    insert_all t = by (ltb n (length t)) refl
      where
        by : (b : Bool) → ltb n (length t) ≡ b → carry_over n (cond b (n + 1) 0) 0 (carrying_of s) t ≡ cond b (insert s (take n t) ++ drop (suc n) t) t
        by true e =
            let h = ltb-true n (length t) e in
            ap (λ (k : ℕ). carry_over n k 0 (carrying_of s) t) (add-one n) ∙ over_is (suc n) [] t (carrying_of s) h ∙ insert_is n 0 s t (zero-add n) h
        by false e = refl

  module _ (len : ℕ) where
    pub turns_most : turns_of len n ≤ len
    turns_most = by (ltb n len) refl
      where
        by : (b : Bool) → ltb n len ≡ b → cond b (n + 1) 0 ≤ len
        by true e = let h = ltb-true n len e in omega arith
        by false e = omega arith

    pub turns_tell : ltb 0 (turns_of len n) ≡ ltb n len
    turns_tell = by (ltb n len)
      where
        by : (b : Bool) → ltb 0 (cond b (n + 1) 0) ≡ b
        by true = lt-ltb 0 (n + 1) (omega arith)
        by false = refl

-- ---- a removal over rows

move_is : (k : ℕ) (pre t : List Segment) → k < length t → move_down k (length pre) (pre ++ t) ≡ pre ++ (take k (drop 1 t) ++ drop k t)
unfolding move_down
move_is k pre [] h = absurd (not-suc-le-zero h)
move_is zero pre (x ∷ t) h = refl
move_is (suc k) pre (x ∷ []) h = absurd (not-suc-le-zero (le_of_suc-le-suc h))
move_is (suc k) pre (x ∷ y ∷ t) h =
    ap (λ (z : Segment). move_down k (length pre + 1) (set (pre ++ x ∷ y ∷ t) (length pre) z)) (get_or-append-add pre (x ∷ y ∷ t) 1 no_segment)
    ∙ ap (move_down k (length pre + 1)) (set-append_seam pre x (y ∷ t) y ∙ sym (append_assoc pre (y ∷ []) (y ∷ t)))
    ∙ ap (λ (j : ℕ). move_down k j ((pre ++ (y ∷ [])) ++ y ∷ t)) (sym (length-append pre (y ∷ [])))
    ∙ move_is k (pre ++ (y ∷ [])) (y ∷ t) (le_of_suc-le-suc h)
    ∙ append_assoc pre (y ∷ []) (take k t ++ drop k (y ∷ t))

-- of the first n of a list, what is left from i on
left_of : (i n : ℕ) (t : List Segment) → i ≤ n → drop i (take n t) ≡ take (n - i) (drop i t)
left_of zero n t h = ap (λ (k : ℕ). take k t) (let e : n ≡ n - 0 = omega arith in e)
left_of (suc i) zero t h = absurd (not-suc-le-zero h)
left_of (suc i) (suc n) [] h = sym (take-nil (suc n - suc i))
left_of (suc i) (suc n) (x ∷ t) h = left_of i n t (le_of_suc-le-suc h) ∙ ap (λ (k : ℕ). take k (drop i t)) (let e : n - i ≡ suc n - suc i = omega arith in e)

module _ (n at : ℕ) (t : List Segment) where
  moved : at < n → n ≤ length t → move_down (n - 1 - at) at t ≡ removed_at at (take n t) ++ drop (n - 1) t
  moved h l =
      ap (λ (k : ℕ). move_down (n - 1 - at) k t) (sym size)
      ∙ ap (move_down (n - 1 - at) (length (take at t))) (sym (take-append-drop at t))
      ∙ move_is (n - 1 - at) (take at t) (drop at t) (rw length-drop (omega arith))
      ∙ ap (λ u. take at t ++ (take (n - 1 - at) u ++ drop (n - 1 - at) (drop at t))) (drop-drop 1 at t ∙ ap (λ (k : ℕ). drop k t) (add-one at))
      ∙ ap (λ u. take at t ++ (take (n - 1 - at) (drop (suc at) t) ++ u)) (drop-drop (n - 1 - at) at t ∙ ap (λ (k : ℕ). drop k t) (let e : at + (n - 1 - at) ≡ n - 1 = omega arith in e))
      ∙ ap (λ u. take at t ++ (u ++ drop (n - 1) t)) (ap (λ (k : ℕ). take k (drop (suc at) t)) (let e : n - 1 - at ≡ n - suc at = omega arith in e) ∙ sym (left_of (suc at) n t h))
      ∙ sym (append_assoc (take at t) (drop (suc at) (take n t)) (drop (n - 1) t))
      ∙ ap (λ u. (u ++ drop (suc at) (take n t)) ++ drop (n - 1) t) (sym (take-take at n t (omega arith)))
    where
      size : length (take at t) ≡ at
      size = length-take-le at t (omega arith)

  pub remove_all : move_down (end_of (length t) n at - at) at t ≡ removed n at t
  unfolding move_down
  remove_all = by (removable (length t) n at) refl
    where
      by : (b : Bool) → removable (length t) n at ≡ b → move_down (cond b (n - 1) at - at) at t ≡ cond b (removed_at at (take n t) ++ drop (n - 1) t) t
      by true e = let h = removable_inside (length t) n at e in moved h.0 h.1
      by false e = ap (λ (k : ℕ). move_down k at t) (let e : at - at ≡ 0 = omega arith in e)

  pub end_inside : (i : ℕ) → at ≤ i → i < end_of (length t) n at → i + 1 < length t
  end_inside i = by (removable (length t) n at) refl
    where
      by : (b : Bool) → removable (length t) n at ≡ b → at ≤ i → i < cond b (n - 1) at → i + 1 < length t
      by true e g h = let r = removable_inside (length t) n at e in let l = r.1 in omega arith
      by false e g h = omega arith

-- ---- a search over rows, from the last on

-- where a place is, and `d` where there is none
abbrev or_else : Option ℕ → ℕ → ℕ
or_else (Some i) d = i
or_else None d = d

module _ (s : Segment) where
  -- one row more at the end
  place_more : (t : List Segment) (x : Segment) (i d : ℕ) → or_else (place_of (t ++ (x ∷ [])) s i) d ≡ or_else (place_of t s i) (cond (sameb x s) (i + length t) d)
  unfolding place_of
  place_more [] x i d = by (sameb x s)
    where
      by : (b : Bool) → or_else (cond b (Some i) None) d ≡ cond b (i + 0) d
      by true = omega arith
      by false = refl
  place_more (y ∷ t) x i d = by (sameb y s) (place_more t x (i + 1) d ∙ ap (λ (k : ℕ). or_else (place_of t s (i + 1)) (cond (sameb x s) k d)) (let e : i + 1 + length t ≡ i + suc (length t) = omega arith in e))
    where
      by : (b : Bool) → or_else (place_of (t ++ (x ∷ [])) s (i + 1)) d ≡ or_else (place_of t s (i + 1)) (cond (sameb x s) (i + suc (length t)) d)
          → or_else (cond b (Some i) (place_of (t ++ (x ∷ [])) s (i + 1))) d ≡ or_else (cond b (Some i) (place_of t s (i + 1))) (cond (sameb x s) (i + suc (length t)) d)
      by true later = refl
      by false later = later

  look_is : (k at : ℕ) (t : List Segment) → k ≤ length t → look_down k at s t ≡ or_else (place_of (take k t) s 0) at
  unfolding look_down place_of
  look_is zero at t h = refl
  look_is (suc k) at t h =
      look_is k (place_with at k x s) t (omega arith)
      ∙ ap (λ (j : ℕ). or_else (place_of (take k t) s 0) (cond (sameb x s) j at)) (let e = length-take-le k t (omega arith) in let f : k ≡ 0 + length (take k t) = omega arith in f)
      ∙ sym (place_more (take k t) x 0 at)
      ∙ ap (λ u. or_else (place_of u s 0) at) (sym (take-suc t k no_segment h))
    where
      x : Segment
      x = get_or t k no_segment

  -- a place is one of the rows
  place_inside : (t : List Segment) (i n : ℕ) → i + length t ≤ n → found_at (or_else (place_of t s i) n) n ≡ place_of t s i
  unfolding place_of
  place_inside [] i n h = sym (found_none n n (omega arith))
  place_inside (x ∷ t) i n h = by (sameb x s) (place_inside t (i + 1) n (omega arith))
    where
      by : (b : Bool) → found_at (or_else (place_of t s (i + 1)) n) n ≡ place_of t s (i + 1) → found_at (or_else (cond b (Some i) (place_of t s (i + 1))) n) n ≡ cond b (Some i) (place_of t s (i + 1))
      by true later = sym (found_some i n (omega arith))
      by false later = later

  pub find_all : (n : ℕ) (t : List Segment) → found_at (look_down (rows_of (length t) n) (rows_of (length t) n) s t) (rows_of (length t) n) ≡ found_in (take n t) s
  find_all n t = by (ltb n (length t)) refl
    where
      some : (k : ℕ) → k ≤ length t → found_at (look_down k k s t) k ≡ found_in (take k t) s
      some k h = ap (λ (j : ℕ). found_at j k) (look_is k k t h) ∙ place_inside (take k t) 0 k (let e = length-take-le k t h in omega arith)

      by : (b : Bool) → ltb n (length t) ≡ b → found_at (look_down (cond b n (length t)) (cond b n (length t)) s t) (cond b n (length t)) ≡ found_in (take n t) s
      by true e = some n (let h = ltb-true n (length t) e in omega arith)
      by false e = some (length t) (omega arith) ∙ ap (λ u. found_in u s) (take_all (length t) t (omega arith) ∙ sym (take_all n t (ltb-false n (length t) e)))

pub rows_most : (len n : ℕ) → rows_of len n ≤ len
rows_most len n = by (ltb n len) refl
  where
    by : (b : Bool) → ltb n len ≡ b → cond b n len ≤ len
    by true e = let h = ltb-true n len e in omega arith
    by false e = omega arith

-- ---- a segment looked for in the first rows; as many are looked at as there are

pub rows_length : (n : ℕ) (t : List Segment) → length (take n t) ≡ rows_of (length t) n
rows_length n t = by (ltb n (length t)) refl
  where
    by : (b : Bool) → ltb n (length t) ≡ b → length (take n t) ≡ cond b n (length t)
    by true e = let h = ltb-true n (length t) e in length-take-le n t (omega arith)
    by false e = ap (λ u. length u) (take_all n t (ltb-false n (length t) e))

abbrev pub Looked : List Segment → Segment → ℕ → ℕ → Type 0
Looked t s n i = Remains (λ u. place_of u s i) (take n t) i (found_in (take n t) s)

module _ (t : List Segment) (s : Segment) (n i : ℕ) (inv : Looked t s n i) where
  module _ (h : i < rows_of (length t) n) (r : Bool) (said : r ≡ sameb (get_or t i no_segment) s) where
    inside : i < length (take n t)
    inside = rw (rows_length n t) h

    row : get_or t i no_segment ≡ get_or (take n t) i no_segment
    row = sym (get_or-take n t i no_segment (by (ltb n (length t)) refl))
      where
        by : (b : Bool) → ltb n (length t) ≡ b → i < n
        by true e = rw e at h
        by false e = let f = ltb-false n (length t) e in let g : i < length t = rw e at h in omega arith

    pub look_found : r ≡ true → Some i ≡ found_in (take n t) s
    unfolding place_of
    look_found e = loop_found (λ u. place_of u s i) (take n t) i (found_in (take n t) s) inv inside no_segment (get_or t i no_segment) row (Some i) (λ u. ap (λ (x : Bool). cond x (Some i) (place_of u s (i + 1))) (sym said ∙ e))

    pub look_more : r ≡ false → Looked t s n (i + 1)
    unfolding place_of
    look_more e = loop_more (λ u. place_of u s i) (take n t) i (found_in (take n t) s) inv inside no_segment (get_or t i no_segment) row (λ u. place_of u s (i + 1)) (λ u. ap (λ (x : Bool). cond x (Some i) (place_of u s (i + 1))) (sym said ∙ e))

  pub look_none : rows_of (length t) n ≤ i → None ≡ found_in (take n t) s
  unfolding place_of
  look_none h = loop_none (λ u. place_of u s i) (take n t) i (found_in (take n t) s) inv (rw (rows_length n t) h)
