-- Searches through the rows, for the lowest free frame and the lowest run: what a loop knows at row i, and that a run's frames are free.
use Rattle.std.specs.Prelude.{◌≡◌, ℕ, suc, ◌+◌, ◌-◌, ◌<◌, ◌≤◌, Bool, true, false, cond, List, [], ◌∷◌, length, drop, ◌==◌, ◌≢◌, nat_lt, slice_index_or, refl, Option, Some, None}
use Rattle.std.proofs.Common.{ap, sym, subst, ◌∙◌}
use native.Mathlib.Omega.{arith}
use Rattle.std.proofs.Math.ListN.{length-drop}
use borrow.Author.Tests.{ltb-true, ltb-false, eqb-true, eqb-false, eq-eqb, ne_eqb}
use Rattle.laws.specs.ResultLaws.{none_not_some, some_same}
use Rattle.model.specs.declared.Backing.{Backing}
use Rattle.laws.specs.Lists.{first}
use Rattle.laws.specs.Loops.{Remains}
use Rattle.laws.specs.LoopLaws.{loop_found, loop_more, loop_none}
use Rattle.model.specs.Machine.{no_backing}
use Rattle.model.specs.Backing.{run_from}
use Rattle.backing.specs.Pass.{cover}
use Rattle.backing.specs.PassLaws.{free_from, pass, pass_anew, free_pass}
use Rattle.backing.specs.FreeRunLaws.{first_above}
use Rattle.backing.specs.BackingSteps.{free_above, lowest_free, lowest_fit}

-- ---- the rest of a pass, one row at a time

module _ (i k c : ℕ) (b : Backing) (now : c ≡ cover k b.len) (t : List Backing) where
  abbrev pass_by : Bool → List ℕ
  pass_by free = cond free (i ∷ free_from c (i + 1) t) (free_from c (i + 1) t)

  row_is : free_from k i (b ∷ t) ≡ pass_by (c == 0)
  unfolding free_from
  row_is = rw (← now)

  row_free : c ≡ 0 → free_from k i (b ∷ t) ≡ i ∷ free_from c (i + 1) t
  row_free z = row_is ∙ ap pass_by (eq-eqb c 0 z)

  row_used : (c ≢ 0) → free_from k i (b ∷ t) ≡ free_from c (i + 1) t
  row_used n = row_is ∙ ap pass_by (ne_eqb c 0 n)

-- ---- the lowest free frame: the rest of the pass gives the same answer

-- the lowest free frame that the rows from i on have, or n
abbrev pub lowest_from : ℕ → ℕ → ℕ → List Backing → ℕ
lowest_from n i k t = first n (free_from k i t)

abbrev pub LowestSought : ℕ → List Backing → ℕ → ℕ → ℕ → Type 0
LowestSought from l n i k = Remains (lowest_from n i k) l i (lowest_free from l)

module _ (from : ℕ) (l : List Backing) (n : ℕ) (sized : n ≡ length l) where
  pub seek_first : LowestSought from l n from 0
  unfolding lowest_free free_above
  seek_first = rw (sized, pass_anew from (drop from l), length-drop from l)

  module _ (i k : ℕ) (s : LowestSought from l n i k) where
    pub seek_none : n ≤ i → n ≡ lowest_free from l
    unfolding free_from
    seek_none h = loop_none (lowest_from n i k) l i (lowest_free from l) s (omega arith)

    module _ (h : i < n) (b : Backing) (read : b ≡ slice_index_or l i no_backing) (c : ℕ) (now : c ≡ cover k b.len) where
      pub seek_found : c ≡ 0 → i ≡ lowest_free from l
      seek_found z = loop_found (lowest_from n i k) l i (lowest_free from l) s (omega arith) no_backing b read i (λ t. ap (first n) (row_free i k c b now t z))

      pub seek_more : (c ≢ 0) → LowestSought from l n (i + 1) c
      seek_more z = loop_more (lowest_from n i k) l i (lowest_free from l) s (omega arith) no_backing b read (lowest_from n (i + 1) c) (λ t. ap (first n) (row_used i k c b now t z))

-- ---- the lowest run: the frames from `start` on up to i are free so far

-- a run that breaks off starts anew
anew : (n f k s : ℕ) (l : List ℕ) → (first (suc (f + k)) l ≢ f + k) → run_from n f k l ≡ run_from n s 0 l
unfolding run_from
anew n f k s [] h = refl
anew n f k s (x ∷ l) h = rw (ne_eqb x (f + k) h) (go (x == s + 0) refl (n == 1) refl)
  where
    go : (a : Bool) → (x == s + 0) ≡ a → (b : Bool) → (n == 1) ≡ b → cond b (Some x) (run_from n x 1 l) ≡ cond a (cond (0 + 1 == n) (Some s) (run_from n s (0 + 1) l)) (cond b (Some x) (run_from n x 1 l))
    go false e b q = refl
    go true e true q = let p = eqb-true x (s + 0) e in let r = eqb-true n 1 q in let here : x ≡ s = omega arith in rw (eq-eqb (0 + 1) n (omega arith)) (ap (λ (y : ℕ). Some y) here)
    go true e false q = let p = eqb-true x (s + 0) e in let r = eqb-false n 1 q in let here : x ≡ s = omega arith in rw (ne_eqb (0 + 1) n (λ z. r (omega arith))) (ap (λ (y : ℕ). run_from n y 1 l) here)

-- the pass from g on finds no frame before g
pass_above : (k g d : ℕ) (l : List Backing) → g ≤ d → g ≤ first d (free_from k g l)
pass_above k g d l h = rw (pass k g l) (first_above _ d g (length l) h)

-- the lowest run that the rows from i on have, with the free frames from `start` on up to i before them
abbrev pub run_on : ℕ → ℕ → ℕ → ℕ → List Backing → Option ℕ
run_on wanted start i k t = run_from wanted start (i - start) (free_from k i t)

abbrev pub Ran : List Backing → ℕ → ℕ → ℕ → ℕ → ℕ → Type 0
Ran l n wanted start i k = (i ≤ n) × ((start ≤ i) × Remains (run_on wanted start i k) l i (lowest_fit l wanted))

module _ (l : List Backing) (n wanted : ℕ) (sized : n ≡ length l) where
  pub run_first : Ran l n wanted 0 0 0
  unfolding lowest_fit
  run_first = (omega arith, (omega arith, rw (free_pass l)))

  module _ (start i k : ℕ) (s : Ran l n wanted start i k) where
    pub run_none : n ≤ i → None ≡ lowest_fit l wanted
    unfolding run_from free_from
    run_none h = loop_none (run_on wanted start i k) l i (lowest_fit l wanted) s.1.1 (omega arith)

    module _ (h : i < n) (b : Backing) (read : b ≡ slice_index_or l i no_backing) (c : ℕ) (now : c ≡ cover k b.len) where
      abbrev up : ℕ
      up = i - start

      abbrev rest : List Backing → List ℕ
      rest t = free_from c (i + 1) t

      -- frame i is free: the run is one longer
      abbrev longer_by : Bool → List Backing → Option ℕ
      longer_by found t = cond found (Some start) (run_from wanted start (up + 1) (rest t))

      free_step : (t : List Backing) → c ≡ 0 → run_on wanted start i k (b ∷ t) ≡ longer_by (up + 1 == wanted) t
      unfolding run_from
      free_step t z = let le = s.1.0 in let here : i ≡ start + up = omega arith in rw (row_free i k c b now t z, eq-eqb i (start + up) here)

      -- it is in a backing: a run starts past it
      used_step : (t : List Backing) → (c ≢ 0) → run_on wanted start i k (b ∷ t) ≡ run_from wanted (i + 1) 0 (rest t)
      used_step t z =
          let le = s.1.0 in
          let above = pass_above c (i + 1) (suc (start + up)) t (omega arith) in
          ap (run_from wanted start up) (row_used i k c b now t z) ∙ anew wanted start up (i + 1) (rest t) (λ e. omega arith)

      module _ (t : ℕ) (starts : t ≡ cond (c == 0) start (i + 1)) (some : wanted ≡ 0 → ⊥) where
        pub run_found : i + 1 - t ≡ wanted → Some t ≡ lowest_fit l wanted
        run_found e = go (c == 0) refl starts
          where
            go : (a : Bool) → (c == 0) ≡ a → t ≡ cond a start (i + 1) → Some t ≡ lowest_fit l wanted
            go true q r =
                let le = s.1.0 in
                let long = eq-eqb (up + 1) wanted (omega arith) in
                ap (λ (y : ℕ). Some y) r
                ∙ loop_found (run_on wanted start i k) l i (lowest_fit l wanted) s.1.1 (omega arith) no_backing b read (Some start) (λ u. free_step u (eqb-true c 0 q) ∙ ap (λ a. longer_by a u) long)
            go false q r = absurd (some (omega arith))

        pub run_more : (i + 1 - t ≢ wanted) → Ran l n wanted t (i + 1) c
        run_more e =
            (omega arith, (reached (c == 0) starts, loop_more (run_on wanted start i k) l i (lowest_fit l wanted) s.1.1 (omega arith) no_backing b read (run_on wanted t (i + 1) c) (λ u. on u (c == 0) refl starts)))
          where
            reached : (a : Bool) → t ≡ cond a start (i + 1) → t ≤ i + 1
            reached true r = let le = s.1.0 in omega arith
            reached false r = omega arith

            on : (u : List Backing) (a : Bool) → (c == 0) ≡ a → t ≡ cond a start (i + 1) → run_on wanted start i k (b ∷ u) ≡ run_from wanted t (i + 1 - t) (rest u)
            on u true q r =
                let le = s.1.0 in
                let long : i + 1 - t ≡ up + 1 = omega arith in
                free_step u (eqb-true c 0 q) ∙ ap (λ a. longer_by a u) (ne_eqb (up + 1) wanted (λ z. e (long ∙ z)))
                ∙ ap (λ (y : ℕ). run_from wanted start y (rest u)) (sym long) ∙ ap (λ (y : ℕ). run_from wanted y (i + 1 - t) (rest u)) (sym r)
            on u false q r =
                let none : i + 1 - t ≡ 0 = omega arith in
                used_step u (eqb-false c 0 q)
                ∙ ap (λ (y : ℕ). run_from wanted (i + 1) y (rest u)) (sym none) ∙ ap (λ (y : ℕ). run_from wanted y (i + 1 - t) (rest u)) (sym r)

-- ---- a run that was found

-- every number of a list has what P says
abbrev pub All : (ℕ → Type 0) → List ℕ → Type 0
All P [] = Unit {0}
All P (x ∷ l) = P x × All P l

-- n numbers from f on, at least one, and each has what P says
pub record Run (P : ℕ → Type 0) (f n : ℕ) : Type 0 where
  pub some : 1 ≤ n
  pub each : (x : ℕ) → f ≤ x → x < f + n → P x

pub run_of : (P : ℕ → Type 0) (n f k : ℕ) (l : List ℕ) (r : ℕ) → All P l → ((x : ℕ) → f ≤ x → x < f + k → P x) → run_from n f k l ≡ Some r → Run P r n
unfolding run_from
run_of P n f k [] r a h e = absurd (none_not_some e)
run_of P n f k (x ∷ l) r a h e = go (x == f + k) refl (k + 1 == n) refl (n == 1) refl e (run_of P n f (k + 1) l r a.1) (run_of P n x 1 l r a.1 alone)
  where
    alone : (y : ℕ) → x ≤ y → y < x + 1 → P y
    alone y p q = let same : x ≡ y = omega arith in subst P same a.0

    longer : x ≡ f + k → (y : ℕ) → f ≤ y → y < f + (k + 1) → P y
    longer s y p q = at (nat_lt y (f + k)) refl
      where
        at : (b : Bool) → nat_lt y (f + k) ≡ b → P y
        at true t = h y p (ltb-true y (f + k) t)
        at false t = let z = ltb-false y (f + k) t in let same : x ≡ y = omega arith in subst P same a.0

    go : (s : Bool) → (x == f + k) ≡ s → (t : Bool) → (k + 1 == n) ≡ t → (u : Bool) → (n == 1) ≡ u → cond s (cond t (Some f) (run_from n f (k + 1) l)) (cond u (Some x) (run_from n x 1 l)) ≡ Some r → (((y : ℕ) → f ≤ y → y < f + (k + 1) → P y) → run_from n f (k + 1) l ≡ Some r → Run P r n) → (run_from n x 1 l ≡ Some r → Run P r n) → Run P r n
    go true p true q u v w more new = let m = eqb-true (k + 1) n q in let same = some_same w in record { some = omega arith; each = λ y b c. longer (eqb-true x (f + k) p) y (omega arith) (omega arith) }
    go true p false q u v w more new = more (longer (eqb-true x (f + k) p)) w
    go false p t q true v w more new = let one = eqb-true n 1 v in let same = some_same w in record { some = omega arith; each = λ y b c. alone y (omega arith) (omega arith) }
    go false p t q false v w more new = new w
