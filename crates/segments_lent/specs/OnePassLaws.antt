-- Laws of `OnePass`: what the search says of the rows that are left is what it says of all.
use Rattle.laws.specs.ResultLaws.{none_not_some, some_not_none}
use Rattle.std.specs.Prelude.{◌≡◌, Bool, cond, ltb, length, get_or, drop, Option, Some, None}
use Rattle.std.proofs.Math.Path.{refl, ap}
use Rattle.std.proofs.Common.{sym, subst, ◌∙◌, arith, drop-cons, lt-ltb, le-ltb, ltb-true, ltb-false, ne_eqb}
use Rattle.std.proofs.Math.Bool.{true, false}
use mathlib.Core.List.{List, [], ◌∷◌}
use Prim.Native.Nat.{ℕ, zero, suc, ◌+◌, ◌-◌, ◌≤◌, ◌<◌}
use Rattle.laws.specs.TellsLaws.{not_told}
use Rattle.laws.specs.Loops.{Remains}
use Rattle.laws.specs.LoopLaws.{loop_more, loop_none}
use Rattle.segment.specs.declared.Segment.{Segment}
use Rattle.segment.specs.Form.{start_of, last_of, overb}
use Rattle.segment.specs.FormLaws.{over_tells}
use Rattle.segment_search.specs.Search.{first_over, aheadb, ahead, try, tries, search}
use Rattle.segment_search.specs.SearchLaws.{search_late, search_free, search_again}
use Rattle.segment_search.specs.TriesLaws.{by_test, ahead_tells, count_no, first_over_is}
use Rattle.segments.specs.declared.table.VirtualMemoryManager.{VirtualMemoryManager}
use Rattle.segments.specs.Table.{held, arena, All, Pairs, Apart, no_segment, soundb}
use Rattle.segments.specs.Calls.{lowest}
use Rattle.segments.specs.RuleLaws.{all_map, sound_tells}
use Rattle.segments.specs.HeldLoopLaws.{held_length, held_at}
use Rattle.segments_lent.specs.declared.lowest.Probe.{Probe}
use Rattle.segments_lent.specs.OnePass.{past_row}
use Rattle.segments_lent.specs.RowRuleLaws.{before_starts}

-- ---- a row that holds nothing at or above the start is none of the search's

not_over : (s : Segment) (first last : ℕ) → aheadb first s ≡ false → overb s first last ≡ false
not_over s first last n = not_told (over_tells s first last) (λ o. (ahead_tells first s).no n (o.some, o.reaches))

still_behind : (s : Segment) (start next : ℕ) → start ≤ next → aheadb start s ≡ false → aheadb next s ≡ false
still_behind s start next l n = not_told (ahead_tells next s) (λ a. (ahead_tells start s).no n (a.0, omega (arith, a.1)))

module _ (s : Segment) (t : List Segment) (last len : ℕ) where
  tries_skip : (n start restarts : ℕ) → aheadb start s ≡ false → tries n (s ∷ t) last len start restarts ≡ tries n t last len start restarts
  unfolding tries first_over
  tries_skip zero start r h = refl
  tries_skip (suc n) start r h =
      ap (λ (b : Bool). try (tries n (s ∷ t) last len) (ltb last (start + (len - 1))) (cond b (Some s) (first_over t start (start + (len - 1)))) start r) (not_over s start (start + (len - 1)) h)
      ∙ same (tries_skip n) (ltb last (start + (len - 1))) (first_over t start (start + (len - 1))) refl
    where
      same : ((start restarts : ℕ) → aheadb start s ≡ false → tries n (s ∷ t) last len start restarts ≡ tries n t last len start restarts)
          → (b : Bool) (f : Option Segment) → first_over t start (start + (len - 1)) ≡ f → try (tries n (s ∷ t) last len) b f start r ≡ try (tries n t last len) b f start r
      same again true f e = refl
      same again false None e = refl
      same again false (Some x) e = again (start_of x + x.len) (r + 1) (still_behind s start (start_of x + x.len) (let o = (first_over_is start (start + (len - 1)) t x e).reaches in omega arith) h)

  search_skip : (start restarts : ℕ) → aheadb start s ≡ false → search (s ∷ t) last len start restarts ≡ search t last len start restarts
  unfolding search
  search_skip start r h =
      ap (λ (n : ℕ). tries (suc n) (s ∷ t) last len start r) (count_no (aheadb start) s t h)
      ∙ tries_skip (suc (ahead t start)) start r h

-- ---- one row passed

module _ (s : Segment) (p : Probe) (len last : ℕ) (fits : p.start + (len - 1) ≤ last) (begins : start_of s ≤ p.start + (len - 1)) where
  abbrev over : Bool
  over = overb s p.start (p.start + (len - 1))

  -- a row that begins no later than the try and is not in its way ends before it
  behind : over ≡ false → aheadb p.start s ≡ false
  behind n = not_told (ahead_tells p.start s) (λ a. (over_tells s p.start (p.start + (len - 1))).no n (record { some = a.0; reaches = a.1; begins = begins }))

  first : over ≡ true → (t : List Segment) → Some s ≡ first_over (s ∷ t) p.start (p.start + (len - 1))
  unfolding first_over
  first y t = rw y

  passed : aheadb (start_of s + s.len) s ≡ false
  passed = not_told (ahead_tells (start_of s + s.len) s) (λ a. let l = a.1 in let n = a.0 in n (omega arith))

  again : over ≡ true → (t : List Segment) → search (s ∷ t) last len p.start p.restarts ≡ search (s ∷ t) last len (start_of s + s.len) (p.restarts + 1)
  again y t = sym (search_again (s ∷ t) last len p.start p.restarts fits (Some s) (first y t) s refl)

  -- what the row leaves to search
  row_on : (q : Probe) → Some q ≡ past_row s p len last → (t : List Segment) → search (s ∷ t) last len p.start p.restarts ≡ search t last len q.start q.restarts
  row_on q e t = by_test over way clear
    where
      clear : over ≡ false → search (s ∷ t) last len p.start p.restarts ≡ search t last len q.start q.restarts
      clear n = let r : Some q ≡ Some p = rw n at e in let z : q ≡ p = cc in search_skip s t last len p.start p.restarts (behind n) ∙ ap (λ (x : Probe). search t last len x.start x.restarts) (sym z)

      way : over ≡ true → search (s ∷ t) last len p.start p.restarts ≡ search t last len q.start q.restarts
      way y = by_test (ltb last (start_of s + s.len + (len - 1))) (λ l. absurd (full l)) on
        where
          full : ltb last (start_of s + s.len + (len - 1)) ≡ true → ⊥
          full l = some_not_none (rw (y, l) at e)

          on : ltb last (start_of s + s.len + (len - 1)) ≡ false → search (s ∷ t) last len p.start p.restarts ≡ search t last len q.start q.restarts
          on l =
              let r : Some q ≡ Some (record { start = start_of s + s.len; restarts = p.restarts + 1 }) = rw (y, l) at e in
              let z : q ≡ record { start = start_of s + s.len; restarts = p.restarts + 1 } = cc in
              again y t ∙ search_skip s t last len (start_of s + s.len) (p.restarts + 1) passed ∙ ap (λ (x : Probe). search t last len x.start x.restarts) (sym z)

  -- and where it ends
  row_fits : (q : Probe) → Some q ≡ past_row s p len last → (q.start + (len - 1) ≤ last) × (q.restarts ≤ p.restarts + 1)
  row_fits q e = by_test over way (λ n. let r : Some q ≡ Some p = rw n at e in let z : q ≡ p = cc in subst (λ (x : Probe). (x.start + (len - 1) ≤ last) × (x.restarts ≤ p.restarts + 1)) (sym z) (fits, omega arith))
    where
      way : over ≡ true → (q.start + (len - 1) ≤ last) × (q.restarts ≤ p.restarts + 1)
      way y = by_test (ltb last (start_of s + s.len + (len - 1))) (λ l. absurd (full l)) on
        where
          full : ltb last (start_of s + s.len + (len - 1)) ≡ true → ⊥
          full l = some_not_none (rw (y, l) at e)

          on : ltb last (start_of s + s.len + (len - 1)) ≡ false → (q.start + (len - 1) ≤ last) × (q.restarts ≤ p.restarts + 1)
          on l =
              let r : Some q ≡ Some (record { start = start_of s + s.len; restarts = p.restarts + 1 }) = rw (y, l) at e in
              let z : q ≡ record { start = start_of s + s.len; restarts = p.restarts + 1 } = cc in
              subst (λ (x : Probe). (x.start + (len - 1) ≤ last) × (x.restarts ≤ p.restarts + 1)) (sym z) (ltb-false last (start_of s + s.len + (len - 1)) l, omega arith)

  row_full : None ≡ past_row s p len last → (t : List Segment) → search (s ∷ t) last len p.start p.restarts ≡ None
  row_full e t = by_test over way (λ n. absurd (clear n))
    where
      clear : over ≡ false → ⊥
      clear n = none_not_some (rw n at e)

      way : over ≡ true → search (s ∷ t) last len p.start p.restarts ≡ None
      way y = by_test (ltb last (start_of s + s.len + (len - 1))) (λ l. again y t ∙ sym (search_late (s ∷ t) last len (start_of s + s.len) (p.restarts + 1) (ltb-true last (start_of s + s.len + (len - 1)) l))) (λ l. absurd (on l))
        where
          on : ltb last (start_of s + s.len + (len - 1)) ≡ false → ⊥
          on l = none_not_some (rw (y, l) at e)

  -- the code's ways to say it
  module _ (b : Bool) (test : b ≡ over) where
    pub past_clear : b ≡ false → Some p ≡ past_row s p len last
    past_clear e = rw (sym test, e)

    module _ (way : b ≡ true) where
      pub past_blocked : last - start_of s < s.len → None ≡ past_row s p len last
      past_blocked h = rw (sym test, way, lt-ltb last (start_of s + s.len + (len - 1)) (omega arith))

      pub past_late : last < start_of s + s.len + (len - 1) → None ≡ past_row s p len last
      past_late h = rw (sym test, way, lt-ltb last (start_of s + s.len + (len - 1)) h)

      pub past_again : start_of s + s.len + (len - 1) ≤ last → Some (record { start = start_of s + s.len; restarts = p.restarts + 1 }) ≡ past_row s p len last
      past_again h = rw (sym test, way, le-ltb last (start_of s + s.len + (len - 1)) h)

-- ---- a row that begins past the try ends the search

all_none : (first last : ℕ) (t : List Segment) → All (λ x. last < start_of x) t → first_over t first last ≡ None
unfolding first_over
all_none first last [] h = refl
all_none first last (x ∷ t) h = rw (not_told (over_tells x first last) (λ o. let b = o.begins in let a = h.0 in omega arith)) (all_none first last t h.1)

pairs_drop : (i : ℕ) (t : List Segment) → Pairs Apart t → Pairs Apart (drop i t)
pairs_drop zero t h = h
pairs_drop (suc i) [] h = h
pairs_drop (suc i) (x ∷ t) h = pairs_drop i t h.1

-- ---- the loop

abbrev pub Searched : VirtualMemoryManager → (len last start n : ℕ) → Probe → ℕ → Type 0
Searched m len last start n p i =
    ((n ≡ m.count) × (i ≤ n)) × (((p.restarts ≤ i) × (p.start + (len - 1) ≤ last)) × Remains (λ t. search t last len p.start p.restarts) (held m) i (search (held m) last len start 0))

module _ (m : VirtualMemoryManager) (sized : length m.segments ≡ 64) (sound : soundb m ≡ true) (len last start n : ℕ) (p : Probe) (i : ℕ) (inv : Searched m len last start n p i) where
  most : m.count ≤ 64
  most = ((sound_tells m).yes sound).counted

  abbrev all : Option (ℕ × ℕ)
  all = search (held m) last len start 0

  abbrev left : List Segment → Option (ℕ × ℕ)
  left t = search t last len p.start p.restarts

  module _ (below : i < n) (s : Segment) (row : s ≡ get_or m.segments i no_segment) where
    here : s ≡ get_or (held m) i no_segment
    here = row ∙ held_at m sized most i (omega (arith, inv.0.0))

    inside : i < length (held m)
    inside = let l = held_length m sized most in omega (arith, inv.0.0)

    rest : drop i (held m) ≡ s ∷ drop (suc i) (held m)
    rest = drop-cons (held m) i no_segment inside ∙ ap (λ (x : Segment). x ∷ drop (suc i) (held m)) (sym here)

    pub search_stop : p.start + (len - 1) < start_of s → Some (p.start, p.restarts) ≡ all
    search_stop h =
        search_free (drop i (held m)) last len p.start p.restarts inv.1.0.1 None (sym nothing) refl
        ∙ sym inv.1.1
      where
        apart : Pairs Apart (s ∷ drop (suc i) (held m))
        apart = subst (λ (t : List Segment). Pairs Apart t) rest (pairs_drop i (held m) ((sound_tells m).yes sound).apart)

        nothing : first_over (drop i (held m)) p.start (p.start + (len - 1)) ≡ None
        nothing =
            ap (λ t. first_over t p.start (p.start + (len - 1))) rest
            ∙ all_none p.start (p.start + (len - 1)) (s ∷ drop (suc i) (held m)) (h, all_map (λ x a. let l = before_starts s x a.order in omega arith) (drop (suc i) (held m)) apart.0)

    module _ (begins : start_of s ≤ p.start + (len - 1)) (r : Option Probe) (past : r ≡ past_row s p len last) where
      pub search_more : (q : Probe) → r ≡ Some q → Searched m len last start n q (i + 1)
      search_more q e =
          let f = row_fits s p len last inv.1.0.1 begins q (sym e ∙ past) in
          let k = inv.1.0.0 in
          ((inv.0.0, omega arith), ((omega (arith, f.1), f.0), loop_more left (held m) i all inv.1.1 inside no_segment s here (λ t. search t last len q.start q.restarts) (row_on s p len last inv.1.0.1 begins q (sym e ∙ past))))

      pub search_none : r ≡ None → None ≡ all
      search_none e = sym (inv.1.1 ∙ ap left rest ∙ row_full s p len last inv.1.0.1 begins (sym e ∙ past) (drop (suc i) (held m)))

  pub search_end : n ≤ i → Some (p.start, p.restarts) ≡ all
  unfolding first_over
  search_end h =
      search_free [] last len p.start p.restarts inv.1.0.1 None refl refl
      ∙ loop_none left (held m) i all inv.1.1 (let l = held_length m sized most in omega (arith, inv.0.0))

pub search_first : (m : VirtualMemoryManager) (len last start : ℕ) → start + (len - 1) ≤ last → Searched m len last start m.count (record { start = start; restarts = 0 }) 0
search_first m len last start h = ((refl, omega arith), ((omega arith, h), refl))

pub search_lowest : (m : VirtualMemoryManager) (len : ℕ) → (len ≡ 0 → ⊥) → len ≤ m.mem_size → (r : Option (ℕ × ℕ)) → r ≡ search (held m) (last_of (arena m)) len (start_of (arena m)) 0 → r ≡ lowest m len
unfolding lowest
search_lowest m len n h r e = e ∙ sym (rw (ne_eqb len 0 n, le-ltb m.mem_size len h))
