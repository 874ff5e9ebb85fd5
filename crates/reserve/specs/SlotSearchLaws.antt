-- The search over a process's slots as they stand: whichever segment in the way is met first, it ends at the same lowest start.
use Rattle.std.specs.Prelude.{◌≡◌, Bool, ◌&&◌, ltb, get_or, Option, Some, None}
use Rattle.std.proofs.Math.Path.{refl, ap}
use Rattle.std.proofs.Common.{sym, ◌∙◌, ltb-true, ltb-false}
use Rattle.std.proofs.Math.Bool.{true, false, cond}
use mathlib.Core.List.{List, [], ◌∷◌}
use Prim.Native.Nat.{ℕ, suc, ◌+◌, ◌-◌, ◌*◌, ◌/◌, ◌≤◌, ◌<◌}
use native.Mathlib.Omega.{arith}
use Rattle.laws.specs.ResultLaws.{none_not_some, some_same}
use Rattle.segment.specs.declared.Segment.{Segment}
use Rattle.segment.specs.Form.{beforeb, overb}
use Rattle.segment_search.specs.Search.{first_over, ahead, tries, search}
use Rattle.segment_search.specs.TriesLaws.{by_test}
use Rattle.segment_search.specs.SearchLaws.{search_late, search_free, search_blocked, search_again, way_begins, way_falls}
use Rattle.segments.specs.Table.{insert, All}
use Rattle.segments.specs.InsertLaws.{all_insert}
use Rattle.segments.specs.FreeStart.{Clear}
use Rattle.segments.specs.LowestTryLaws.{Right, tries_right}
use Rattle.model.specs.declared.Region.{Region}
use Rattle.model.specs.Layout.{machine}
use Rattle.model.specs.Machine.{no_region}
use Rattle.model.specs.Lookup.{first_row, is_used, pages_for, segment_len, regions_of}
use Rattle.model.specs.Segments.{segments_in, segments_of, found_start}
use Rattle.model.specs.FoundRowLaws.{first_found}
use Rattle.lookup.specs.LookupsLaws.{slots_length, slot_at}
use Rattle.reserve.specs.InTheWay.{segment_for, over_used}

-- the segments of the slots in use, in slot order
unfoldable pub used_in : List Region → List Segment
used_in [] = []
used_in (r ∷ l) = cond (is_used r) (segment_for r ∷ used_in l) (used_in l)

-- ---- the order of segments does not matter

insert_all : (P : Segment → Type 0) (s : Segment) (t : List Segment) → All P (insert s t) → P s × All P t
unfolding insert
insert_all P s [] h = h
insert_all P s (x ∷ t) h = by (beforeb x s) (insert_all P s t) h
  where
    by : (b : Bool) → (All P (insert s t) → P s × All P t) → All P (cond b (x ∷ insert s t) (s ∷ x ∷ t)) → P s × (P x × All P t)
    by true rest k = ((rest k.1).0, (k.0, (rest k.1).1))
    by false rest k = k

module _ (P : Segment → Type 0) where
  sorted_all : (l : List Region) → All P (used_in l) → All P (segments_in l)
  unfolding used_in segments_in
  sorted_all [] h = h
  sorted_all (r ∷ l) h = by (is_used r) (sorted_all l) h
    where
      by : (b : Bool) → (All P (used_in l) → All P (segments_in l)) → All P (cond b (segment_for r ∷ used_in l) (used_in l)) → All P (cond b (insert (segment_for r) (segments_in l)) (segments_in l))
      by true rest k = all_insert (segment_for r) P k.0 (segments_in l) (rest k.1)
      by false rest k = rest k

  used_all : (l : List Region) → All P (segments_in l) → All P (used_in l)
  unfolding used_in segments_in
  used_all [] h = h
  used_all (r ∷ l) h = by (is_used r) (used_all l) h
    where
      by : (b : Bool) → (All P (segments_in l) → All P (used_in l)) → All P (cond b (insert (segment_for r) (segments_in l)) (segments_in l)) → All P (cond b (segment_for r ∷ used_in l) (used_in l))
      by true rest k = let both = insert_all P (segment_for r) (segments_in l) k in (both.0, rest both.1)
      by false rest k = rest k

-- two searches of the same segments find the same start, however often they started over
module _ (t u : List Segment) (last len : ℕ) (there : (x : ℕ) → Clear t len x → Clear u len x) (back : (x : ℕ) → Clear u len x → Clear t len x) where
  same_right : (start : ℕ) (f g : Option (ℕ × ℕ)) → Right t last len start f → Right u last len start g → found_start f ≡ found_start g
  same_right start (Some (a, r)) (Some (b, k)) p q = ap (λ (x : ℕ). Some x) one
    where
      one : a ≡ b
      one =
          by_test (ltb a b) (λ l. absurd (q.3 a p.0 (ltb-true a b l) (there a p.2)))
          (λ l. by_test (ltb b a) (λ m. absurd (p.3 b q.0 (ltb-true b a m) (back b q.2))) (λ m. omega (arith, ltb-false a b l, ltb-false b a m)))
  same_right start (Some (a, r)) None p q = absurd (q a p.0 p.1 (there a p.2))
  same_right start None (Some (b, k)) p q = absurd (p b q.0 q.1 (back b q.2))
  same_right start None None p q = refl

  same_found : (start r k : ℕ) → found_start (search t last len start r) ≡ found_start (search u last len start k)
  unfolding search
  same_found start r k =
      same_right start (tries (suc (ahead t start)) t last len start r) (tries (suc (ahead u start)) u last len start k)
      (tries_right t last len (suc (ahead t start)) start r (omega arith)) (tries_right u last len (suc (ahead u start)) start k (omega arith))

module _ (l : List Region) (last len : ℕ) where
  slots_found : (start r k : ℕ) → found_start (search (used_in l) last len start r) ≡ found_start (search (segments_in l) last len start k)
  slots_found start r k = same_found (used_in l) (segments_in l) last len (λ x. sorted_all _ l) (λ x. used_all _ l) start r k

-- ---- the first slot in the way has the first segment in the way

module _ (start len : ℕ) where
  abbrev end : ℕ
  end = start + (len - 1)

  used_nothing : (l : List Region) (k : ℕ) → first_row (over_used start len) l k ≡ None → first_over (used_in l) start end ≡ None
  unfolding first_row used_in first_over
  used_nothing [] k e = refl
  used_nothing (r ∷ l) k e = by (is_used r) (overb (segment_for r) start end) refl (used_nothing l (k + 1)) e
    where
      by : (b o : Bool) → overb (segment_for r) start end ≡ o → (first_row (over_used start len) l (k + 1) ≡ None → first_over (used_in l) start end ≡ None)
          → cond (b && o) (Some k) (first_row (over_used start len) l (k + 1)) ≡ None → first_over (cond b (segment_for r ∷ used_in l) (used_in l)) start end ≡ None
      by true true o rest q = absurd (none_not_some (sym q))
      by true false o rest q = rw o (rest q)
      by false _ o rest q = rest q

  used_from : (l : List Region) (k i : ℕ) → first_row (over_used start len) l k ≡ Some i → (k ≤ i) × (first_over (used_in l) start end ≡ Some (segment_for (get_or l (i - k) no_region)))
  unfolding first_row used_in first_over
  used_from [] k i e = absurd (none_not_some e)
  used_from (r ∷ l) k i e = by (is_used r) (overb (segment_for r) start end) refl (used_from l (k + 1) i) e
    where
      later : (k + 1 ≤ i) × (first_over (used_in l) start end ≡ Some (segment_for (get_or l (i - (k + 1)) no_region)))
          → (k ≤ i) × (first_over (used_in l) start end ≡ Some (segment_for (get_or (r ∷ l) (i - k) no_region)))
      later h =
          let low = h.0 in
          let next : suc (i - (k + 1)) ≡ i - k = omega arith in
          (omega arith, h.1 ∙ ap (λ (j : ℕ). Some (segment_for (get_or (r ∷ l) j no_region))) next)

      by : (b o : Bool) → overb (segment_for r) start end ≡ o
          → (first_row (over_used start len) l (k + 1) ≡ Some i → (k + 1 ≤ i) × (first_over (used_in l) start end ≡ Some (segment_for (get_or l (i - (k + 1)) no_region))))
          → cond (b && o) (Some k) (first_row (over_used start len) l (k + 1)) ≡ Some i
          → (k ≤ i) × (first_over (cond b (segment_for r ∷ used_in l) (used_in l)) start end ≡ Some (segment_for (get_or (r ∷ l) (i - k) no_region)))
      by true true o rest q =
          let same = some_same q in
          let here : 0 ≡ i - k = omega arith in
          (omega arith, rw o (ap (λ (j : ℕ). Some (segment_for (get_or (r ∷ l) j no_region))) here))
      by true false o rest q = rw o (later (rest q))
      by false _ o rest q = later (rest q)

-- ---- one try, a law for each way through the code

module _ (w : List ℕ) (p last len start : ℕ) where
  abbrev slots : List Region
  slots = regions_of (machine w) p

  abbrev stop : ℕ
  stop = start + (len - 1)

  -- the start that the search of the sorted segments finds
  abbrev Ends : ℕ → Option ℕ
  Ends from = found_start (search (segments_of (machine w) p) last len from 0)

  in_order : (from r : ℕ) → found_start (search (used_in slots) last len from r) ≡ Ends from
  unfolding segments_of
  in_order from r = slots_found slots last len from r 0

  pub slots_late : last < stop → None ≡ Ends start
  slots_late h = ap found_start (search_late (segments_of (machine w) p) last len start 0 h)

  module _ (fits : stop ≤ last) (f : Option ℕ) (e : f ≡ first_row (over_used start len) slots 0) where
    pub slots_free : f ≡ None → Some start ≡ Ends start
    slots_free n = ap found_start (search_free (used_in slots) last len start 0 fits _ (sym (used_nothing start len slots 0 (sym e ∙ n))) refl) ∙ in_order start 0

    module _ (small : p < 8) (i : ℕ) (at : f ≡ Some i) where
      pub slots_low : i < 64
      slots_low = rw (sym (slots_length w p small)) (first_found (over_used start len) slots i no_region (sym e ∙ at)).0

      module _ (r : Region) (read : r ≡ get_or (machine w).regions (p * 64 + i) no_region) where
        over : Some (segment_for r) ≡ first_over (used_in slots) start stop
        over =
            let same : i ≡ i - 0 = omega arith in
            ap (λ (x : Region). Some (segment_for x)) (slot_at w p i r slots_low read ∙ ap (λ (j : ℕ). get_or slots j no_region) same) ∙ sym (used_from start len slots 0 i (sym e ∙ at)).1

        pub slots_begin : r.start.0 ≤ last
        slots_begin = way_begins (used_in slots) last len start 0 fits _ over (segment_for r) refl

        module _ (n : ℕ) (pages : n ≡ pages_for r.size) where
          pub slots_blocked : (last - r.start.0) / 4096 < n → None ≡ Ends start
          slots_blocked h = ap found_start (search_blocked (used_in slots) last len start 0 fits _ over (segment_for r) refl (omega arith)) ∙ in_order start 0

          past : r.start.0 + segment_len r ≡ r.start.0 + n * 4096
          past = ap (λ (x : ℕ). r.start.0 + x * 4096) (sym pages)

          pub slots_falls : ahead (used_in slots) (r.start.0 + n * 4096) < ahead (used_in slots) start
          slots_falls = rw (sym past) (way_falls (used_in slots) last len start 0 fits _ over (segment_for r) refl)

          pub slots_again : Ends (r.start.0 + n * 4096) ≡ Ends start
          slots_again =
              ap Ends (sym past)
              ∙ sym (in_order (r.start.0 + segment_len r) 1)
              ∙ ap found_start (search_again (used_in slots) last len start 0 fits _ over (segment_for r) refl)
              ∙ in_order start 0
