-- Laws of `InTheWay`: a region in the way of a new segment, and that a process's segments overlap it exactly if one of its regions is in the way.
use Rattle.std.specs.Prelude.{◌≡◌, Bool, ◌&&◌, ◌||◌, cond, ℕ, ◌+◌, ◌-◌, ◌/◌, ◌≤◌, ◌<◌, ltb, Option, Some}
use Rattle.std.proofs.Math.Path.{refl, ap}
use Rattle.std.proofs.Common.{sym, ◌∙◌, arith, eq-eqb, ne_eqb}
use Rattle.std.proofs.Math.Bool.{true, false}
use mathlib.Core.List.{List, [], ◌∷◌}
use Rattle.laws.specs.BoolLaws.{or_swap}
use Rattle.laws.specs.TellsLaws.{not_told, tells_same}
use Rattle.segment.specs.declared.Segment.{Segment}
use Rattle.segment.specs.Form.{beforeb, overb}
use Rattle.segment.specs.FormLaws.{over_tells}
use Rattle.laws.specs.TestLaws.{tells_lt, tells_as}
use Rattle.segments.specs.Table.{insert}
use Rattle.segment_search.specs.Search.{first_over}
use Rattle.segments.specs.Calls.{is_in, overlapsb}
use Rattle.model.specs.declared.Region.{Region}
use Rattle.model.specs.Machine.{Machine}
use Rattle.model.specs.Lookup.{first_row, is_used, is_found, pages_for, segment_len, regions_of}
use Rattle.model.specs.Segments.{segments_in, segments_of, reserved}
use Rattle.reserve.specs.InTheWay.{segment_for, over_used}

-- ---- one region

module _ (r : Region) (start len : ℕ) where
  pub over_unused : r.kind ≡ 0 → false ≡ over_used start len r
  over_unused e = rw (eq-eqb r.kind 0 e)

  module _ (used : r.kind ≡ 0 → ⊥) where
    over_used_is : (b : Bool) → b ≡ overb (segment_for r) start (start + (len - 1)) → b ≡ over_used start len r
    over_used_is b e = e ∙ rw (ne_eqb r.kind 0 used)

    -- it starts at or below: it reaches the start
    pub over_below : (n : ℕ) → n ≡ pages_for r.size → r.start.0 ≤ start → ltb ((start - r.start.0) / 4096) n ≡ over_used start len r
    over_below n e h = over_used_is _ (tells_same
        (tells_as (λ l. record { some = λ z. omega arith; reaches = omega arith; begins = omega arith }) (λ o. reach o.some o.reaches) (tells_lt ((start - r.start.0) / 4096) n))
        (over_tells (segment_for r) start (start + (len - 1))))
      where
        reach : (segment_len r ≡ 0 → ⊥) → start ≤ r.start.0 + (segment_len r - 1) → (start - r.start.0) / 4096 < n
        reach s t = omega arith

    module _ (above : start < r.start.0) where
      pub over_empty : r.size ≡ 0 → false ≡ over_used start len r
      over_empty z = over_used_is false (sym (not_told (over_tells (segment_for r) start (start + (len - 1))) (λ o. o.some (omega arith))))

      -- it starts above: the new segment reaches it
      pub over_above : 0 < len → (r.size ≡ 0 → ⊥) → ltb (r.start.0 - start) len ≡ over_used start len r
      over_above some z = over_used_is _ (tells_same
          (tells_as (λ l. record { some = λ e. omega arith; reaches = omega arith; begins = omega arith }) (λ o. let b = o.begins in omega arith) (tells_lt (r.start.0 - start) len))
          (over_tells (segment_for r) start (start + (len - 1))))

-- ---- the sorted segments

-- whether one of some segments has a byte from first to last
abbrev any_over : List Segment → ℕ → ℕ → Bool
any_over t first last = is_in (first_over t first last)

module _ (first last : ℕ) where
  over_first : (s : Segment) (t : List Segment) → any_over (s ∷ t) first last ≡ (overb s first last || any_over t first last)
  unfolding first_over
  over_first s t = by (overb s first last)
    where
      by : (b : Bool) → is_in (cond b (Some s) (first_over t first last)) ≡ (b || any_over t first last)
      by true = refl
      by false = refl

  -- where a segment is put in does not matter
  over_insert : (s : Segment) (t : List Segment) → any_over (insert s t) first last ≡ (overb s first last || any_over t first last)
  unfolding insert
  over_insert s [] = over_first s []
  over_insert s (x ∷ t) = by (beforeb x s) (over_insert s t)
    where
      by : (b : Bool) → any_over (insert s t) first last ≡ (overb s first last || any_over t first last) → any_over (cond b (x ∷ insert s t) (s ∷ x ∷ t)) first last ≡ (overb s first last || any_over (x ∷ t) first last)
      by true ih = over_first x (insert s t) ∙ ap (λ c. overb x first last || c) ih ∙ or_swap (overb x first last) (overb s first last) (any_over t first last) ∙ ap (λ c. overb s first last || c) (sym (over_first x t))
      by false ih = over_first s (x ∷ t)

-- a process's segments overlap a new one exactly if a slot's region does
found_over : (start len : ℕ) (l : List Region) (i : ℕ) → is_found (first_row (over_used start len) l i) ≡ any_over (segments_in l) start (start + (len - 1))
unfolding first_row segments_in first_over
found_over start len [] i = refl
found_over start len (r ∷ l) i = by (is_used r) (overb (segment_for r) start (start + (len - 1))) refl (found_over start len l (i + 1))
  where
    by : (u o : Bool) → overb (segment_for r) start (start + (len - 1)) ≡ o → is_found (first_row (over_used start len) l (i + 1)) ≡ any_over (segments_in l) start (start + (len - 1))
        → is_found (cond (u && o) (Some i) (first_row (over_used start len) l (i + 1))) ≡ any_over (cond u (insert (segment_for r) (segments_in l)) (segments_in l)) start (start + (len - 1))
    by false o e ih = ih
    by true true e ih = sym (over_insert start (start + (len - 1)) (segment_for r) (segments_in l) ∙ ap (λ (b : Bool). b || any_over (segments_in l) start (start + (len - 1))) e)
    by true false e ih = ih ∙ sym (over_insert start (start + (len - 1)) (segment_for r) (segments_in l) ∙ ap (λ (b : Bool). b || any_over (segments_in l) start (start + (len - 1))) e)

module _ (m : Machine) (p start len : ℕ) where
  pub reserved_empty : len ≡ 0 → false ≡ reserved m p start len
  unfolding reserved overlapsb
  reserved_empty e = rw (eq-eqb len 0 e)

  pub reserved_found : (len ≡ 0 → ⊥) → (f : Option ℕ) → f ≡ first_row (over_used start len) (regions_of m p) 0 → is_found f ≡ reserved m p start len
  unfolding reserved overlapsb segments_of
  reserved_found n f e = ap is_found e ∙ found_over start len (regions_of m p) 0 ∙ rw (ne_eqb len 0 n)
