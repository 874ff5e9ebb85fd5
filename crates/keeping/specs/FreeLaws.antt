-- Free frames: the pool's next frame and the lowest run are free, and a frame claimed leaves at most one less.
use Rattle.std.specs.Prelude.{◌≡◌, refl, ◌≢◌, Bool, true, false, ◌&&◌, ◌||◌, not, cond, List, [], ◌∷◌, ℕ, zero, suc, ◌+◌, ◌-◌, ◌≤◌, ◌<◌, length, get_or, set, take, eqb, ltb, leb, Some}
use Rattle.std.proofs.Common.{ap, sym, subst, ◌∙◌, inl, inr, true≢false, zero-le, suc-le-suc, le_of_suc-le-suc, not-suc-le-zero, arith, get_or-take, length-take-le, ltb-true, ltb-false, eqb-true, le-leb, leb-true}
use Rattle.std.proofs.lemmas.Bool.{false≢true, eqb-false, not-true}
use Rattle.laws.specs.ResultLaws.{none_not_some, some_same}
use Rattle.model.specs.declared.Backing.{Backing}
use Rattle.laws.specs.Lists.{up_from}
use Rattle.model.specs.Machine.{Machine, no_backing}
use Rattle.model.specs.Backing.{backing_at, in_some, free_frames, run_from, lowest_run, claim, with_backings}
use Rattle.model.specs.Sound.{free_of}
use Rattle.laws.specs.BoolLaws.{both_true, or_none}
use Rattle.laws.specs.SetLaws.{each_row}
use Rattle.laws.specs.In.{In, Once}
use Rattle.laws.specs.InListsLaws.{in_keep, first_in, in_up, keep_in, once_keep, keep_one, without, subset_most, once_up, up_in, in_without, once_without}
use Rattle.keeping.specs.Owing.{Owing}
use Rattle.keeping.specs.BackingsKept.{FreeRun}

-- a frame in no backing is past each that starts at it or before
past : (x g : ℕ) (l : List Backing) → in_some x g l ≡ false → (j : ℕ) → j < length l → g + j ≤ x → g + j + (get_or l j no_backing).len ≤ x
unfolding in_some
past x g [] e j h k = absurd (not-suc-le-zero h)
past x g (b ∷ l) e zero h k = go (leb g x) refl (or_none (leb g x && ltb x (g + b.len)) (in_some x (g + 1) l) e).0
  where
    go : (t : Bool) → leb g x ≡ t → (t && ltb x (g + b.len)) ≡ false → g + 0 + b.len ≤ x
    go true p q = let m = ltb-false x (g + b.len) q in omega arith
    go false p q = absurd (true≢false (sym (le-leb g x (omega arith)) ∙ p))
past x g (b ∷ l) e (suc j) h k =
    let r = past x (g + 1) l (or_none (leb g x && ltb x (g + b.len)) (in_some x (g + 1) l) e).1 j (le_of_suc-le-suc h) (omega arith) in
    omega arith

-- a free frame: one of the machine's, in no backing
abbrev pub IsFree : Machine → ℕ → Type 0
IsFree m x = (x < m.frame_count) × ((j : ℕ) → j ≤ x → j + (backing_at m j).len ≤ x)

-- frames that the pool counts are free
pub is_free : (d : ℕ → ℕ) (m : Machine) → Owing d m → (x : ℕ) → In x (free_of m) → IsFree m x
unfolding free_frames
is_free d m o x i = (low, free)
  where
    rows : List Backing
    rows = take m.frame_count m.backings

    test : ℕ → Bool
    test x = not (in_some x 0 rows)

    low : x < m.frame_count
    low = let t = (in_up x 0 m.frame_count (in_keep test x (up_from 0 m.frame_count) i).0).1 in omega arith

    free : (j : ℕ) → j ≤ x → j + (backing_at m j).len ≤ x
    free j k =
        let l = low in
        let a = o.sizes.backings in
        let b = o.sizes.frame_count in
        let size : length rows ≡ m.frame_count = length-take-le m.frame_count m.backings (omega arith) in
        let t = past x 0 rows (not-true _ (in_keep test x (up_from 0 m.frame_count) i).1) j (omega arith) (omega arith) in
        let same = ap (λ (y : Backing). y.len) (get_or-take m.frame_count m.backings j no_backing (omega arith)) in
        omega arith

-- the next frame is one
pub next_run : (d : ℕ → ℕ) (m : Machine) → Owing d m → eqb m.pool.free 0 ≡ false → FreeRun m m.pool.next.0 1
next_run d m o e =
    let l = is.0 in
    record {
      some = omega arith;
      inside = omega arith;
      free = λ x l h j k. let z : m.pool.next.0 ≡ x = omega arith in
          subst (λ (y : ℕ). j ≤ y → j + (backing_at m j).len ≤ y) z (is.1 j) k;
    }
  where
    is : IsFree m m.pool.next.0
    is =
        is_free d m o m.pool.next.0 (subst (λ (x : ℕ). In x (free_of m)) (sym o.pool.next)
        (first_in m.frame_count (free_of m) (λ z. eqb-false m.pool.free 0 e (o.pool.free ∙ z))))

-- ---- a run

run_of : (P : ℕ → Type 0) (n f k : ℕ) (l : List ℕ) → ((x : ℕ) → In x l → P x) → ((x : ℕ) → f ≤ x → x < f + k → P x) → (g : ℕ) → run_from n f k l ≡ Some g
    → (1 ≤ n) × ((x : ℕ) → g ≤ x → x < g + n → P x)
unfolding run_from
run_of P n f k [] all so g e = absurd (none_not_some e)
run_of P n f k (x ∷ l) all so g e =
    go (eqb x (f + k)) refl (eqb (k + 1) n) refl (eqb n 1) refl e (λ s. run_of P n f (k + 1) l (λ y i. all y (inr i)) s g)
    (λ s. run_of P n x 1 l (λ y i. all y (inr i)) s g)
  where
    longer : x ≡ f + k → (y : ℕ) → f ≤ y → y < f + (k + 1) → P y
    longer q y a b = side (ltb y (f + k)) refl
      where
        side : (t : Bool) → ltb y (f + k) ≡ t → P y
        side true u = so y a (ltb-true y (f + k) u)
        side false u = let v = ltb-false y (f + k) u in let w : x ≡ y = omega arith in subst P w (all x (inl refl))

    alone : (y : ℕ) → x ≤ y → y < x + 1 → P y
    alone y a b = let w : x ≡ y = omega arith in subst P w (all x (inl refl))

    go : (a : Bool) → eqb x (f + k) ≡ a → (b : Bool) → eqb (k + 1) n ≡ b → (c : Bool) → eqb n 1 ≡ c
        → cond a (cond b (Some f) (run_from n f (k + 1) l)) (cond c (Some x) (run_from n x 1 l)) ≡ Some g
        → (((y : ℕ) → f ≤ y → y < f + (k + 1) → P y) → run_from n f (k + 1) l ≡ Some g → (1 ≤ n) × ((y : ℕ) → g ≤ y → y < g + n → P y))
        → (((y : ℕ) → x ≤ y → y < x + 1 → P y) → run_from n x 1 l ≡ Some g → (1 ≤ n) × ((y : ℕ) → g ≤ y → y < g + n → P y))
        → (1 ≤ n) × ((y : ℕ) → g ≤ y → y < g + n → P y)
    go true p true q c r w more anew =
        let len = eqb-true (k + 1) n q in
        let at = some_same w in
        (omega arith, λ y a b. longer (eqb-true x (f + k) p) y (omega arith) (omega arith))
    go true p false q c r w more anew = more (longer (eqb-true x (f + k) p)) w
    go false p b q true r w more anew = let len = eqb-true n 1 r in let at = some_same w in (omega arith, λ y a b. alone y (omega arith) (omega arith))
    go false p b q false r w more anew = anew alone w

-- the lowest run is free
pub lowest_run_free : (d : ℕ → ℕ) (m : Machine) → Owing d m → (n f : ℕ) → lowest_run m n ≡ Some f → FreeRun m f n
unfolding lowest_run
lowest_run_free d m o n f e =
    let k = run_of (IsFree m) n 0 0 (free_of m) (is_free d m o) (λ x a b. absurd (omega arith)) f e in
    let some = k.0 in
    let last = (k.1 (f + (n - 1)) (omega arith) (omega arith)).0 in
    record { some = some; inside = omega arith; free = λ x a b. (k.1 x a b).1 }

-- ---- one less

-- the row that covers a frame
record Covering (x g : ℕ) (l : List Backing) : Type 0 where
  row : ℕ
  inside : row < length l
  from : g + row ≤ x
  until : x < g + row + (get_or l row no_backing).len

covering : (x g : ℕ) (l : List Backing) → in_some x g l ≡ true → Covering x g l
unfolding in_some
covering x g [] e = absurd (false≢true e)
covering x g (b ∷ l) e = go (leb g x && ltb x (g + b.len)) refl e (covering x (g + 1) l)
  where
    go : (t : Bool) → (leb g x && ltb x (g + b.len)) ≡ t → (t || in_some x (g + 1) l) ≡ true → (in_some x (g + 1) l ≡ true → Covering x (g + 1) l)
        → Covering x g (b ∷ l)
    go true p q more =
        let k = both_true (leb g x) (ltb x (g + b.len)) p in
        let a = leb-true g x k.0 in
        let c = ltb-true x (g + b.len) k.1 in
        record { row = zero; inside = suc-le-suc zero-le; from = omega arith; until = omega arith }
    go false p q more =
        let k = more q in
        let a = k.from in
        let c = k.until in
        record { row = suc k.row; inside = suc-le-suc k.inside; from = omega arith; until = omega arith }

pub claim_fewer : (d : ℕ → ℕ) (m : Machine) → Owing d m → (f : ℕ) → FreeRun m f 1 → length (free_of m) ≤ suc (length (free_of (claim m f 1)))
unfolding free_frames claim with_backings
claim_fewer d m o f run =
    let one = keep_one f (free_of m) once_free in
    let sub = subset_most (without f (free_of m)) (free_of (claim m f 1)) (once_without f (free_of m) once_free) still in
    omega arith
  where
    once_free : Once (free_of m)
    once_free = once_keep (λ x. not (in_some x 0 (take m.frame_count m.backings))) (up_from 0 m.frame_count) (once_up 0 m.frame_count)

    rows : List Backing
    rows = take m.frame_count (set m.backings f (record { len = 1; holders = 1 }))

    there : f < length m.backings
    there = let a = o.sizes.backings in let b = o.sizes.frame_count in let c = run.inside in omega arith

    past_each : (x : ℕ) → IsFree m x → x ≢ f → (j : ℕ) → 0 + j ≤ x → x < 0 + j + (get_or (set m.backings f (record { len = 1; holders = 1 })) j no_backing).len
        → ⊥
    past_each x k z =
        each_row m.backings f (record { len = 1; holders = 1 }) no_backing there (λ j y. 0 + j ≤ x → x < 0 + j + y.len → ⊥)
        (λ a u. z (omega arith))
        (λ j q a u. let past = k.1 j (omega arith) in omega arith)

    uncovered : (x : ℕ) → IsFree m x → x ≢ f → (b : Bool) → in_some x 0 rows ≡ b → b ≡ false
    uncovered x k z false e = refl
    uncovered x k z true e =
        let c = covering x 0 rows e in
        let low = k.0 in
        let a = c.from in
        let row = get_or-take m.frame_count (set m.backings f (record { len = 1; holders = 1 })) c.row no_backing (omega arith) in
        absurd (past_each x k z c.row a (subst (λ (y : Backing). x < 0 + c.row + y.len) row c.until))

    still : (x : ℕ) → In x (without f (free_of m)) → In x (free_of (claim m f 1))
    still x i =
        let t = in_without f x (free_of m) i in
        let k = is_free d m o x t.0 in
        keep_in (λ y. not (in_some y 0 rows)) x (up_from 0 m.frame_count) (let l = k.0 in up_in x 0 m.frame_count zero-le (omega arith))
        (ap not (uncovered x k t.1 (in_some x 0 rows) refl))
