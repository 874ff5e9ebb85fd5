-- Laws of `RowRule`: the pass tells what the table's rule asks, and what its loop knows after i rows.
use Rattle.std.specs.Prelude.{◌≡◌, refl, ℕ, ◌+◌, ◌-◌, ◌≤◌, ◌<◌, eqb, ltb, leb, length, get_or, Result, Ok, Err, ⊤}
use Rattle.std.proofs.Math.Path.{ap}
use Rattle.std.proofs.Common.{sym, ◌∙◌, inl, inr, ⊎_elim, eqb-true, leb-true, leb-false, lt-ltb, le-leb, eq-eqb, ne_eqb}
use mathlib.Core.Bool.{Bool, true, false, not, ◌&&◌, ◌||◌}
use mathlib.Core.List.{List, [], ◌∷◌}
use native.Mathlib.Omega.{arith}
use Rattle.std.proofs.lemmas.Bool.{eqb-false, lt-leb}
use Rattle.laws.specs.TellsLaws.{tells_same, tells_both}
use Rattle.laws.specs.TestLaws.{tells_lt, tells_if, tells_bool, tells_as}
use Rattle.laws.specs.BoolLaws.{both_true, either, or_none}
use Rattle.laws.specs.Loops.{Remains}
use Rattle.laws.specs.LoopLaws.{loop_found, loop_more, loop_none}
use Rattle.answers.specs.declared.Refusal.{Refusal}
use Rattle.segment.specs.declared.Segment.{Segment}
use Rattle.segment.specs.Form.{start_of, last_of, emptyb, form_of, done, Before}
use Rattle.segment.specs.FormLaws.{before_tells}
use Rattle.segment_search.specs.TriesLaws.{by_test}
use Rattle.segments.specs.declared.table.VirtualMemoryManager.{VirtualMemoryManager}
use Rattle.segments.specs.declared.table.Reach.{Reach}
use Rattle.segments.specs.Table.{held, walk, reach_with, followsb, in_order, belowb, no_segment, no_reach}
use Rattle.segments.specs.RuleLaws.{before_trans, formed_tells}
use Rattle.segments.specs.HeldLoopLaws.{held_length, held_at}
use Rattle.segments_lent.specs.declared.table.Floor.{Floor}
use Rattle.segments_lent.specs.RowRule.{no_floor, clearsb, restsb, raised_to, floor_with, rises}

-- ---- the floor says what the row before and the reach say

-- a row x that is not empty may follow
abbrev After : Bool → Segment → Reach → Segment → Type 0
After started prev r x = (started ≡ true → Before prev x) × (r.any ≡ true → r.last < start_of x)

abbrev Above : Floor → Segment → Type 0
Above f x = f.any ≡ true → f.last < start_of x

record Meets (started : Bool) (prev : Segment) (r : Reach) (f : Floor) : Type 0 where
  starts : started ≡ true → f.prev ≡ start_of prev
  down : (x : Segment) → (x.len ≡ 0 → ⊥) → Above f x → After started prev r x
  up : (x : Segment) → (x.len ≡ 0 → ⊥) → After started prev r x → Above f x

meets_none : Meets false no_segment no_reach no_floor
meets_none = record {
  starts = λ e. absurd (mathlib.Core.Bool.false≢true e);
  down = λ x n a. (λ e. absurd (mathlib.Core.Bool.false≢true e), λ e. absurd (mathlib.Core.Bool.false≢true e));
  up = λ x n a e. absurd (mathlib.Core.Bool.false≢true e);
}

-- of two in order, the first starts no later
pub before_starts : (a b : Segment) → Before a b → start_of a ≤ start_of b
before_starts a b (inl l) = omega arith
before_starts a b (inr p) = omega (arith, p.0)

-- an empty one comes before any other that starts no earlier
empty_before : (a b : Segment) → a.len ≡ 0 → (b.len ≡ 0 → ⊥) → start_of a ≤ start_of b → Before a b
empty_before a b e n l = by_test (ltb (start_of a) (start_of b)) (λ t. inl ((tells_lt (start_of a) (start_of b)).yes t)) (λ t. inr (same ((tells_lt (start_of a) (start_of b)).no t), some n))
  where
    same : (start_of a < start_of b → ⊥) → start_of a ≡ start_of b
    same k = by_test (eqb (start_of a) (start_of b)) (eqb-true (start_of a) (start_of b)) (λ t. absurd (k (omega (arith, eqb-false (start_of a) (start_of b) t))))

    some : (b.len ≡ 0 → ⊥) → a.len < b.len
    some k = by_test (eqb b.len 0) (λ t. absurd (k (eqb-true b.len 0 t))) (λ t. omega (arith, eqb-false b.len 0 t))

module _ (started : Bool) (prev : Segment) (r : Reach) (f : Floor) (m : Meets started prev r f) (s : Segment) where
  -- the row may follow by both
  row_same : restsb f started s ≡ followsb r started prev s
  row_same = by_test (emptyb s) (λ e. rw e (ap (λ (b : Bool). done (form_of s) && b) (empty (eqb-true s.len 0 e)))) (λ e. rw e (ap (λ (b : Bool). done (form_of s) && b) (other (eqb-false s.len 0 e))))
    where
      empty : s.len ≡ 0 → (not started || ltb f.prev (start_of s)) ≡ (in_order started prev s && true)
      empty z = tells_same (tells_if (tells_bool started) (tells_lt f.prev (start_of s)))
          (tells_as (λ p e. omega (arith, m.starts e, start (p.0 e))) (λ p. (λ e. inl (omega (arith, m.starts e, p e)), refl))
          (tells_both (tells_if (tells_bool started) (before_tells prev s)) (tells_bool true)))
        where
          start : Before prev s → start_of prev < start_of s
          start (inl l) = l
          start (inr p) = absurd (omega (arith, p.1))

      other : (s.len ≡ 0 → ⊥) → (not f.any || ltb f.last (start_of s)) ≡ (in_order started prev s && (not r.any || ltb r.last (start_of s)))
      other n = tells_same (tells_if (tells_bool f.any) (tells_lt f.last (start_of s)))
          (tells_as (m.up s n) (m.down s n)
          (tells_both (tells_if (tells_bool started) (before_tells prev s)) (tells_if (tells_bool r.any) (tells_lt r.last (start_of s)))))

  -- past a row that may follow they still agree
  row_meets : (started ≡ true → Before prev s) → Meets true s (reach_with r s) (floor_with f s)
  row_meets after = by_test (emptyb s) (λ e. rw e (by_test stays (λ k. rw k (low (eqb-true s.len 0 e) k)) (λ k. rw k (high (eqb-true s.len 0 e) k)))) (λ e. rw e (some (eqb-false s.len 0 e)))
    where
      stays : Bool
      stays = eqb (start_of s) 0 || (f.any && leb (start_of s - 1) f.last)

      some : (s.len ≡ 0 → ⊥) → Meets true s (record { any = true; last = last_of s }) (record { any = true; last = last_of s; prev = start_of s })
      some n = record {
        starts = λ e. refl;
        down = λ x k a. (λ e. inl (omega (arith, a refl)), a);
        up = λ x k p. p.1;
      }

      low : s.len ≡ 0 → stays ≡ true → Meets true s r (record { any = f.any; last = f.last; prev = start_of s })
      low z k = record {
        starts = λ e. refl;
        down = λ x n a. (λ e. empty_before s x z n (⊎_elim (λ t. omega (arith, eqb-true (start_of s) 0 t)) (λ t. let p = both_true f.any (leb (start_of s - 1) f.last) t in omega (arith, a p.0, leb-true (start_of s - 1) f.last p.1)) (either (eqb (start_of s) 0) (f.any && leb (start_of s - 1) f.last) k)), (m.down x n a).1);
        up = λ x n p. m.up x n (λ e. before_trans prev s x (after e) (p.0 refl), p.1);
      }

      high : s.len ≡ 0 → stays ≡ false → Meets true s r (record { any = true; last = start_of s - 1; prev = start_of s })
      high z k = let q = or_none (eqb (start_of s) 0) (f.any && leb (start_of s - 1) f.last) k in record {
        starts = λ e. refl;
        down = λ x n a. (λ e. empty_before s x z n (omega (arith, a refl)), (m.down x n (λ e. omega (arith, a refl, leb-false (start_of s - 1) f.last (rw e at q.1)))).1);
        up = λ x n p e. let l = before_starts s x (p.0 refl) in omega (arith, eqb-false (start_of s) 0 q.0);
      }

walks : (t : List Segment) (started : Bool) (prev : Segment) (r : Reach) (f : Floor) → Meets started prev r f → rises t started f ≡ walk t started prev r
unfolding rises walk
walks [] started prev r f m = refl
walks (s ∷ t) started prev r f m =
    ap (λ (b : Bool). b && rises t true (floor_with f s)) (row_same started prev r f m s)
    ∙ by_test (followsb r started prev s) (λ e. yes e (walks t true s (reach_with r s) (floor_with f s) (row_meets started prev r f m s (order e)))) (λ e. rw e)
  where
    order : followsb r started prev s ≡ true → started ≡ true → Before prev s
    order e = (tells_if (tells_bool started) (before_tells prev s)).yes (both_true (in_order started prev s) (belowb r s) (both_true (done (form_of s)) (in_order started prev s && belowb r s) e).1).0

    yes : followsb r started prev s ≡ true → rises t true (floor_with f s) ≡ walk t true s (reach_with r s) → (followsb r started prev s && rises t true (floor_with f s)) ≡ (followsb r started prev s && walk t true s (reach_with r s))
    yes e p = ap (λ (b : Bool). followsb r started prev s && b) p

-- the pass tells the table's rule
pub rises_walks : (t : List Segment) → rises t false no_floor ≡ walk t false no_segment no_reach
rises_walks t = walks t false no_segment no_reach no_floor meets_none

-- ---- the loop

abbrev pub Risen : VirtualMemoryManager → ℕ → Floor → ℕ → Type 0
Risen m n f i = (n ≡ m.count) × ((i ≤ n) × Remains (λ t. rises t (ltb 0 i) f) (held m) i (rises (held m) false no_floor))

-- a row that may follow is well formed
pub rests_formed : (b : Bool) (f : Floor) (started : Bool) (s : Segment) → b ≡ restsb f started s → b ≡ true → form_of s ≡ Ok tt
rests_formed b f started s e t = (formed_tells s).yes (both_true (done (form_of s)) (clearsb f started s) (sym e ∙ t)).0

module _ (m : VirtualMemoryManager) (sized : length m.segments ≡ 64) (most : m.count ≤ 64) (n : ℕ) (f : Floor) (i : ℕ) (inv : Risen m n f i) where
  abbrev rule : Bool
  rule = rises (held m) false no_floor

  abbrev from : List Segment → Bool
  from t = rises t (ltb 0 i) f

  module _ (below : i < n) (s : Segment) (row : s ≡ get_or m.segments i no_segment) (b : Bool) (test : b ≡ restsb f (ltb 0 i) s) where
    here : s ≡ get_or (held m) i no_segment
    here = row ∙ held_at m sized most i (omega (arith, inv.0))

    inside : i < length (held m)
    inside = let l = held_length m sized most in omega (arith, inv.0)

    pub rise_more : b ≡ true → (g : Floor) → g ≡ floor_with f s → Risen m n g (i + 1)
    unfolding rises
    rise_more t g p = (inv.0, (omega arith, loop_more from (held m) i rule inv.1.1 inside no_segment s here (λ u. rises u (ltb 0 (i + 1)) g) on))
      where
        on : (u : List Segment) → (restsb f (ltb 0 i) s && rises u true (floor_with f s)) ≡ rises u (ltb 0 (i + 1)) g
        on u =
            ap (λ (x : Bool). x && rises u true (floor_with f s)) (sym test ∙ t)
            ∙ ap (λ (x : Bool). rises u x (floor_with f s)) (sym (lt-ltb 0 (i + 1) (omega arith)))
            ∙ ap (λ x. rises u (ltb 0 (i + 1)) x) (sym p)

    pub rise_stop : b ≡ false → false ≡ rule
    unfolding rises
    rise_stop t = loop_found from (held m) i rule inv.1.1 inside no_segment s here false (λ u. ap (λ (x : Bool). x && rises u true (floor_with f s)) (sym test ∙ t))

  pub rise_done : n ≤ i → true ≡ rule
  unfolding rises
  rise_done h = loop_none from (held m) i rule inv.1.1 (let l = held_length m sized most in omega (arith, inv.0))

-- ---- a row past the floor, one law for each way

module _ (f : Floor) (started : Bool) (s : Segment) (a : Result ⊤ Refusal) (form : a ≡ form_of s) where
  pub rests_form : (why : Refusal) → a ≡ Err why → false ≡ restsb f started s
  rests_form why e = rw (sym form, e)

  module _ (good : a ≡ Ok tt) where
    pub rests_first : s.len ≡ 0 → started ≡ false → true ≡ restsb f started s
    rests_first z e = rw (sym form, good, eq-eqb s.len 0 z, e)

    pub rests_empty : s.len ≡ 0 → started ≡ true → ltb f.prev (start_of s) ≡ restsb f started s
    rests_empty z e = rw (sym form, good, eq-eqb s.len 0 z, e)

    pub rests_none : (s.len ≡ 0 → ⊥) → f.any ≡ false → true ≡ restsb f started s
    rests_none n e = rw (sym form, good, ne_eqb s.len 0 n, e)

    pub rests_above : (s.len ≡ 0 → ⊥) → f.any ≡ true → ltb f.last (start_of s) ≡ restsb f started s
    rests_above n e = rw (sym form, good, ne_eqb s.len 0 n, e)

module _ (f : Floor) (s : Segment) where
  pub with_some : (s.len ≡ 0 → ⊥) → record { any = true; last = last_of s; prev = start_of s } ≡ floor_with f s
  with_some n = rw (ne_eqb s.len 0 n)

  pub with_empty : s.len ≡ 0 → (g : Floor) → g ≡ raised_to f (start_of s) → g ≡ floor_with f s
  with_empty z g p = rw (eq-eqb s.len 0 z) p

module _ (f : Floor) (start : ℕ) where
  pub raised_zero : start ≡ 0 → record { any = f.any; last = f.last; prev = start } ≡ raised_to f start
  raised_zero z = rw (eq-eqb start 0 z)

  module _ (n : start ≡ 0 → ⊥) where
    pub raised_first : f.any ≡ false → record { any = true; last = start - 1; prev = start } ≡ raised_to f start
    raised_first e = rw (ne_eqb start 0 n, e)

    pub raised_below : f.any ≡ true → start - 1 ≤ f.last → record { any = true; last = f.last; prev = start } ≡ raised_to f start
    raised_below e l = rw (ne_eqb start 0 n, e, le-leb (start - 1) f.last l)

    pub raised_above : f.any ≡ true → f.last < start - 1 → record { any = true; last = start - 1; prev = start } ≡ raised_to f start
    raised_above e l = rw (ne_eqb start 0 n, e, lt-leb (start - 1) f.last l)
