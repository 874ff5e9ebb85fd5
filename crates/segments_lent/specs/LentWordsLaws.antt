-- Laws of lent words as a manager: a row read and put, the count put, and that reading is one to one.
use Rattle.std.specs.Prelude.{◌≡◌, refl, Bool, true, false, List, [], ◌∷◌, ℕ, zero, suc, ◌+◌, ◌-◌, ◌*◌, ◌≤◌, ◌<◌, eqb, length, take, drop, get_or, set}
use Rattle.std.proofs.Common.{ap, sym, ◌∙◌, le_of_suc-le-suc, not-suc-le-zero, arith, length-drop, get_or-set_same, get_or-set_other, get_or-drop, drop-set-lt, take_all, eqb-true, eq-eqb, ne_eqb}
use Rattle.std.proofs.lemmas.List.{drop-set-add}
use Rattle.laws.specs.BoolLaws.{both_true}
use Rattle.segment.specs.declared.Segment.{Segment}
use Rattle.segment_search.specs.SegmentWords.{table_of}
use Rattle.segment_search.specs.SegmentWordsLaws.{row_at, table_at, table_length}
use Rattle.segments.specs.Table.{held, soundb, no_segment}
use Rattle.segments.specs.Run.{numbers}
use Rattle.segments.specs.ShiftLaws.{with_rows}
use Rattle.segments_lent.specs.LentWords.{manager_of, words_of, row_put, lent_sound}

-- 64 rows, whatever the words
pub sized : (w : List ℕ) → length (manager_of w).segments ≡ 64
sized w = table_length (drop 3 w) 64

-- ---- a row

pub row_read : (w : List ℕ) (i : ℕ) → i < 64 → record { start = record { 0 = get_or w (3 + i * 2) 0 }; len = get_or w (4 + i * 2) 0 } ≡ get_or (manager_of w).segments i no_segment
row_read w i h = row ∙ table_at i 64 (drop 3 w) no_segment h
  where
    row : record { start = record { 0 = get_or w (3 + i * 2) 0 }; len = get_or w (4 + i * 2) 0 } ≡ row_at (drop 3 w) i
    row = λ k. record {
      start = record { 0 = sym (get_or-drop 3 w (i * 2) 0) k };
      len = (ap (λ (j : ℕ). get_or w j 0) (let e : 4 + i * 2 ≡ 3 + (i * 2 + 1) = omega arith in e) ∙ sym (get_or-drop 3 w (i * 2 + 1) 0)) k;
    }

-- two words put are one row put
table_put : (i n : ℕ) (w : List ℕ) (s : Segment) → i < n → n * 2 ≤ length w → table_of (set (set w (i * 2) s.start.0) (i * 2 + 1) s.len) n ≡ set (table_of w n) i s
unfolding table_of
table_put i zero w s h l = absurd (not-suc-le-zero h)
table_put i (suc n) [] s h l = absurd (omega arith)
table_put i (suc n) (x ∷ []) s h l = absurd (omega arith)
table_put zero (suc n) (x ∷ y ∷ w) s h l = refl
table_put (suc i) (suc n) (x ∷ y ∷ w) s h l =
    ap (λ (j : ℕ). table_of (set (set (x ∷ y ∷ w) j s.start.0) (suc i * 2 + 1) s.len) (suc n)) (let e : suc i * 2 ≡ suc (suc (i * 2)) = omega arith in e)
    ∙ ap (λ (j : ℕ). table_of (set (x ∷ y ∷ set w (i * 2) s.start.0) j s.len) (suc n)) (let e : suc i * 2 + 1 ≡ suc (suc (i * 2 + 1)) = omega arith in e)
    ∙ ap (λ t. row_at (x ∷ y ∷ w) 0 ∷ t) (table_put i n w s (le_of_suc-le-suc h) (omega arith))

-- a word from 3 on leaves what stands below
low_stays : (w : List ℕ) (k x j : ℕ) → j < 3 → 3 ≤ k → get_or (set w k x) j 0 ≡ get_or w j 0
low_stays w k x j h l = get_or-set_other w k j x 0 (λ e. omega (arith, e))

pub row_put_is : (w : List ℕ) (i : ℕ) (s : Segment) → length w ≡ 131 → i < 64
    → manager_of (set (set w (3 + i * 2) s.start.0) (4 + i * 2) s.len) ≡ row_put (manager_of w) i s
row_put_is w i s e h = λ k. record {
  mem_start = record { 0 = low 0 (omega arith) k };
  mem_size = low 1 (omega arith) k;
  count = low 2 (omega arith) k;
  segments = rows k;
}
  where
    low : (j : ℕ) → j < 3 → get_or (set (set w (3 + i * 2) s.start.0) (4 + i * 2) s.len) j 0 ≡ get_or w j 0
    low j l = low_stays (set w (3 + i * 2) s.start.0) (4 + i * 2) s.len j l (omega arith) ∙ low_stays w (3 + i * 2) s.start.0 j l (omega arith)

    rest : drop 3 (set (set w (3 + i * 2) s.start.0) (4 + i * 2) s.len) ≡ set (set (drop 3 w) (i * 2) s.start.0) (i * 2 + 1) s.len
    rest =
        ap (λ (j : ℕ). drop 3 (set (set w (3 + i * 2) s.start.0) j s.len)) (let f : 4 + i * 2 ≡ 3 + (i * 2 + 1) = omega arith in f)
        ∙ drop-set-add 3 (set w (3 + i * 2) s.start.0) (i * 2 + 1) s.len
        ∙ ap (λ t. set t (i * 2 + 1) s.len) (drop-set-add 3 w (i * 2) s.start.0)

    rows : table_of (drop 3 (set (set w (3 + i * 2) s.start.0) (4 + i * 2) s.len)) 64 ≡ set (table_of (drop 3 w) 64) i s
    rows = ap (λ t. table_of t 64) rest ∙ table_put i 64 (drop 3 w) s h (omega (arith, length-drop 3 w))

-- the first rows of a longer table
table_take : (n k : ℕ) (w : List ℕ) → n ≤ k → take n (table_of w k) ≡ table_of w n
unfolding table_of
table_take zero k w h = refl
table_take (suc n) zero w h = absurd (not-suc-le-zero h)
table_take (suc n) (suc k) w h = ap (λ t. row_at w 0 ∷ t) (table_take n k (drop 2 w) (le_of_suc-le-suc h))

-- the held rows, in the part of the words that is lent to the search
pub rows_lent : (w : List ℕ) → length w ≡ 131 → (manager_of w).count ≤ 64 → table_of (take (length w - 3) (drop 3 w)) (manager_of w).count ≡ held (manager_of w)
rows_lent w e h =
    ap (λ t. table_of t (manager_of w).count) (take_all (length w - 3) (drop 3 w) (omega (arith, length-drop 3 w)))
    ∙ sym (table_take (manager_of w).count 64 (drop 3 w) h)

-- ---- the count

pub count_put : (w : List ℕ) (n : ℕ) → length w ≡ 131 → manager_of (set w 2 n) ≡ with_rows (manager_of w) n (manager_of w).segments
count_put w n e = λ k. record {
  mem_start = record { 0 = get_or-set_other w 2 0 n 0 (λ f. omega (arith, f)) k };
  mem_size = get_or-set_other w 2 1 n 0 (λ f. omega (arith, f)) k;
  count = get_or-set_same w 2 n 0 (omega arith) k;
  segments = ap (λ t. table_of t 64) (drop-set-lt 3 w 2 n (omega arith)) k;
}

-- ---- reading words as a manager is one to one

numbers_table : (n : ℕ) (w : List ℕ) → length w ≡ n * 2 → numbers (table_of w n) ≡ w
unfolding table_of
numbers_table zero [] h = refl
numbers_table zero (x ∷ w) h = absurd (omega arith)
numbers_table (suc n) [] h = absurd (omega arith)
numbers_table (suc n) (x ∷ []) h = absurd (omega arith)
numbers_table (suc n) (x ∷ y ∷ w) h = ap (λ (t : List ℕ). x ∷ y ∷ t) (numbers_table n w (omega arith))

pub words_manager : (w : List ℕ) → length w ≡ 131 → words_of (manager_of w) ≡ w
unfolding words_of
words_manager [] h = absurd (omega arith)
words_manager (x ∷ []) h = absurd (omega arith)
words_manager (x ∷ y ∷ []) h = absurd (omega arith)
words_manager (x ∷ y ∷ z ∷ w) h = ap (λ (t : List ℕ). x ∷ y ∷ z ∷ t) (numbers_table 64 w (omega arith))

-- ---- words that are sound

pub lent_sound_is : (w : List ℕ) → lent_sound w ≡ true → (length w ≡ 131) × (soundb (manager_of w) ≡ true)
unfolding lent_sound
lent_sound_is w e = let p = both_true (eqb (length w) 131) (soundb (manager_of w)) e in (eqb-true (length w) 131 p.0, p.1)

pub sound_other : (w : List ℕ) → (length w ≡ 131 → ⊥) → false ≡ lent_sound w
unfolding lent_sound
sound_other w n = rw (ne_eqb (length w) 131 n)

pub sound_sized : (w : List ℕ) → length w ≡ 131 → (b : Bool) → b ≡ soundb (manager_of w) → b ≡ lent_sound w
unfolding lent_sound
sound_sized w e b p = rw (eq-eqb (length w) 131 e) p
