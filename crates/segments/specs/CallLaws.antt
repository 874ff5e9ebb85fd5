-- The calls, one law for each way through their code.
use Rattle.std.specs.Prelude.{◌≡◌, Bool, true, false, List, ◌++◌, ℕ, suc, ◌+◌, ◌-◌, ◌^◌, ◌≤◌, ◌<◌, ltb, length, replicate, Option, Some, None, is_some, Result, Ok, Err, ⊤}
use Rattle.std.proofs.Math.Path.{ap, sym}
use Rattle.std.proofs.Common.{subst, ◌∙◌}
use Rattle.std.proofs.Math.Bool.{cond}
use native.Mathlib.Omega.{arith}
use borrow.Author.Tests.{eq-eqb, ne_eqb, lt-ltb, le-ltb, le-leb, lt-leb}
use Rattle.answers.specs.declared.Refusal.{Refusal}
use Rattle.answers.specs.declared.Refusal.TheVariants.{BadTable, BadAddress, NoSpace, SegmentReserved, InvalidSplitPoint, NotReserved, TableFull}
use Rattle.address.specs.declared.VirtAddr.{VirtAddr}
use Rattle.address.specs.Canonical.{canonical}
use Rattle.address.specs.Pages.{aligned}
use Rattle.segment.specs.declared.Segment.{Segment}
use Rattle.segments.specs.declared.table.VirtualMemoryManager.{VirtualMemoryManager}
use Rattle.segment.specs.Form.{start_of, last_of, form_of}
use Rattle.segment.specs.FormLaws.{form_last}
use Rattle.segments.specs.Table.{held, arena, stored, soundb, insert, removed_at, place_of, no_segment, empty, remove, heldb}
use Rattle.segment_search.specs.Search.{first_over, ahead, search}
use Rattle.segment_search.specs.SegmentWords.{table_of}
use Rattle.segment_search.specs.SegmentWordsLaws.{table_length}
use Rattle.segments.specs.RuleLaws.{sound_tells}
use Rattle.segment_search.specs.TriesLaws.{by_test, ahead_le}
use Rattle.segments.specs.PositionLaws.{place_stands, place_absent, held_stored, stored_stored}
use Rattle.segments.specs.ShiftLaws.{removed_length}
use Rattle.segments.specs.InsertLaws.{length_insert}
use Rattle.segments.specs.HeldLoopLaws.{held_length}
use Rattle.laws.specs.ResultLaws.{err_not_ok}
use Rattle.segments.specs.CallWayLaws.{point_done}
use Rattle.segments.specs.CallTestLaws.{Inside, inside_tells}
use Rattle.segments.specs.Calls.{segment, new_call, lowest, reserve_call, checked_by, overlapsb, mark_call, release_call, insideb, split_point, low, high, split_call, list_call}

-- ---- what a sound manager's tests say

pub sound_most : (m : VirtualMemoryManager) → soundb m ≡ true → m.count ≤ 64
sound_most m e = ((sound_tells m).yes e).counted

pub sound_arena_last : (m : VirtualMemoryManager) → soundb m ≡ true → start_of (arena m) < 2 ^ 64 → last_of (arena m) < 2 ^ 64
sound_arena_last m e f = form_last (arena m) f ((sound_tells m).yes e).arena_formed

-- ---- a new manager

module _ (start : VirtAddr) (size : ℕ) (f : Result ⊤ Refusal) (form : f ≡ form_of (record { start = start; len = size })) (m : VirtualMemoryManager) where
  pub new_good : f ≡ Ok tt → m ≡ empty start size → record { answer = f; manager = m } ≡ new_call start size
  unfolding new_call
  new_good e p = rw (sym form, e, p)

  pub new_bad : (why : Refusal) → f ≡ Err why → m ≡ empty (record { 0 = 0 }) 0 → record { answer = f; manager = m } ≡ new_call start size
  unfolding new_call
  new_bad why e p = rw (sym form, e, p)

-- ---- the lowest free start

module _ (m : VirtualMemoryManager) (len : ℕ) where
  pub lowest_zero : len ≡ 0 → None ≡ lowest m len
  unfolding lowest
  lowest_zero e = rw (eq-eqb len 0 e)

  module _ (n : len ≡ 0 → ⊥) where
    pub lowest_more : m.mem_size < len → None ≡ lowest m len
    unfolding lowest
    lowest_more h = rw (ne_eqb len 0 n, lt-ltb m.mem_size len h)

    pub lowest_search : len ≤ m.mem_size → (w : List ℕ) → table_of w m.count ≡ held m → (r : Option (ℕ × ℕ)) → r ≡ search (table_of w m.count) (last_of (arena m)) len (start_of (arena m)) 0 → r ≡ lowest m len
    unfolding lowest
    lowest_search h w t r e = e ∙ ap (λ x. search x (last_of (arena m)) len (start_of (arena m)) 0) t ∙ sym (rw (ne_eqb len 0 n, le-ltb m.mem_size len h))

pub ahead_most : (w : List ℕ) (count start : ℕ) → 0 + ahead (table_of w count) start ≤ count
ahead_most w count start = let a = ahead_le (table_of w count) start in let l = table_length w count in omega arith

-- ---- reserving

module _ (m : VirtualMemoryManager) (len : ℕ) (b : Bool) (test : b ≡ soundb m) where
  pub reserve_unsound : b ≡ false → record { answer = Err BadTable; manager = m } ≡ reserve_call m len
  unfolding reserve_call
  reserve_unsound e = rw (sym test, e)

  module _ (sound : b ≡ true) (f : Option (ℕ × ℕ)) (low : f ≡ lowest m len) where
    pub reserve_no_space : f ≡ None → record { answer = Err NoSpace; manager = m } ≡ reserve_call m len
    unfolding reserve_call
    reserve_no_space e = rw (sym test, sound, sym low, e)

    module _ (start restarts : ℕ) (free : f ≡ Some (start, restarts)) where
      pub reserve_table_full : 64 ≤ m.count → record { answer = Err TableFull; manager = m } ≡ reserve_call m len
      unfolding reserve_call
      reserve_table_full h = rw (sym test, sound, sym low, free, le-leb 64 m.count h)

      pub reserve_done : m.count < 64 → (after : VirtualMemoryManager) → after ≡ stored m (insert (segment start len) (held m)) → record { answer = Ok (segment start len, restarts); manager = after } ≡ reserve_call m len
      unfolding reserve_call
      reserve_done h after e = rw (sym test, sound, sym low, free, lt-leb 64 m.count h, e)

-- ---- the tests before a segment is looked up

module _ (m : VirtualMemoryManager) (s : Segment) (b : Bool) (test : b ≡ soundb m) where
  pub checked_unsound : b ≡ false → Err BadTable ≡ checked_by m s
  unfolding checked_by
  checked_unsound e = rw (sym test, e)

  pub checked_form : b ≡ true → (f : Result ⊤ Refusal) → f ≡ form_of s → f ≡ checked_by m s
  unfolding checked_by
  checked_form e f p = p ∙ sym (ap (λ (x : Bool). cond x (form_of s) (Err BadTable)) (sym test ∙ e))

-- what passed the tests is a sound table and a well-formed segment
pub checked_sound : (m : VirtualMemoryManager) (s : Segment) → checked_by m s ≡ Ok tt → soundb m ≡ true
unfolding checked_by
checked_sound m s e = by_test (soundb m) (λ k. k) (λ k. absurd (err_not_ok (rw k at e)))

pub checked_formed : (m : VirtualMemoryManager) (s : Segment) → checked_by m s ≡ Ok tt → form_of s ≡ Ok tt
unfolding checked_by
checked_formed m s e = rw (checked_sound m s e) at e

pub checked_most : (m : VirtualMemoryManager) (s : Segment) (f : Result ⊤ Refusal) → f ≡ checked_by m s → f ≡ Ok tt → m.count ≤ 64
checked_most m s f p e = sound_most m (checked_sound m s (sym p ∙ e))

-- ---- overlap with any

module _ (m : VirtualMemoryManager) (s : Segment) where
  pub any_empty : s.len ≡ 0 → false ≡ overlapsb (held m) s
  unfolding overlapsb
  any_empty e = rw (eq-eqb s.len 0 e)

  module _ (n : s.len ≡ 0 → ⊥) (w : List ℕ) (t : table_of w m.count ≡ held m) (f : Option Segment) (first : f ≡ first_over (table_of w m.count) (start_of s) (last_of s)) where
    pub any_some : is_some f ≡ overlapsb (held m) s
    unfolding overlapsb
    any_some = rw (ne_eqb s.len 0 n, sym t, sym first)

-- ---- marking and releasing

module _ (m : VirtualMemoryManager) (s : Segment) (f : Result ⊤ Refusal) (checked : f ≡ checked_by m s) where
  pub marked_refused : (why : Refusal) → f ≡ Err why → record { answer = Err why; manager = m } ≡ mark_call m s
  unfolding mark_call
  marked_refused why e = rw (sym checked, e)

  pub released_refused : (why : Refusal) → f ≡ Err why → record { answer = Err why; manager = m } ≡ release_call m s
  unfolding release_call
  released_refused why e = rw (sym checked, e)

  module _ (done : f ≡ Ok tt) (p : Option ℕ) (at : p ≡ place_of (held m) s 0) where
    pub release_no : p ≡ None → record { answer = Ok false; manager = m } ≡ release_call m s
    unfolding release_call
    release_no e = rw (sym checked, done, place_absent (held m) s 0 (sym at ∙ e))

    pub release_inside : (k : ℕ) → p ≡ Some k → length m.segments ≡ 64 → k < m.count
    release_inside k e sized = let l = (place_stands (held m) s 0 k (sym at ∙ e)).inside in let h = held_length m sized (checked_most m s f checked done) in omega arith

    pub release_yes : (k : ℕ) → p ≡ Some k → (after : VirtualMemoryManager) → after ≡ stored m (removed_at k (held m)) → record { answer = Ok true; manager = after } ≡ release_call m s
    unfolding release_call
    release_yes k e after r =
        let st = place_stands (held m) s 0 k (sym at ∙ e) in
        let rest : remove s (held m) ≡ removed_at k (held m) = st.rest ∙ ap (λ (n : ℕ). removed_at n (held m)) (let z : k - 0 ≡ k = omega arith in z) in
        rw (sym checked, done, st.was, rest, r)

    module _ (o : Bool) (over : o ≡ overlapsb (held m) s) where
      pub mark_reserved : o ≡ true → record { answer = Err SegmentReserved; manager = m } ≡ mark_call m s
      unfolding mark_call
      mark_reserved e = rw (sym checked, done, sym over, e)

      module _ (clear : o ≡ false) where
        pub mark_again : (k : ℕ) → p ≡ Some k → record { answer = Ok tt; manager = m } ≡ mark_call m s
        unfolding mark_call
        mark_again k e = rw (sym checked, done, sym over, clear, (place_stands (held m) s 0 k (sym at ∙ e)).was)

        module _ (absent : p ≡ None) where
          pub mark_full : 64 ≤ m.count → record { answer = Err TableFull; manager = m } ≡ mark_call m s
          unfolding mark_call
          mark_full h = rw (sym checked, done, sym over, clear, place_absent (held m) s 0 (sym at ∙ absent), le-leb 64 m.count h)

          pub mark_done : m.count < 64 → (after : VirtualMemoryManager) → after ≡ stored m (insert s (held m)) → record { answer = Ok tt; manager = after } ≡ mark_call m s
          unfolding mark_call
          mark_done h after e = rw (sym checked, done, sym over, clear, place_absent (held m) s 0 (sym at ∙ absent), lt-leb 64 m.count h, e)

-- ---- splitting

module _ (s : Segment) (at : VirtAddr) where
  pub inside_not_page : aligned at.0 ≡ false → false ≡ insideb s at
  unfolding insideb
  inside_not_page e = rw e

  module _ (page : aligned at.0 ≡ true) where
    pub inside_not_above : at.0 ≤ start_of s → false ≡ insideb s at
    unfolding insideb
    inside_not_above h = rw (page, le-ltb (start_of s) at.0 h)

    pub inside_above : start_of s < at.0 → ltb (at.0 - start_of s) s.len ≡ insideb s at
    unfolding insideb
    inside_above h = rw (page, lt-ltb (start_of s) at.0 h)

module _ (m : VirtualMemoryManager) (s : Segment) (at : VirtAddr) (b : Bool) (test : b ≡ soundb m) where
  pub point_unsound : b ≡ false → Err BadTable ≡ split_point m s at
  unfolding split_point
  point_unsound e = rw (sym test, e)

  module _ (sound : b ≡ true) (c : Bool) (address : c ≡ canonical at.0) where
    pub point_address : c ≡ false → Err BadAddress ≡ split_point m s at
    unfolding split_point
    point_address e = rw (sym test, sound, sym address, e)

    module _ (good : c ≡ true) (f : Result ⊤ Refusal) (form : f ≡ form_of s) where
      pub point_form : (why : Refusal) → f ≡ Err why → Err why ≡ split_point m s at
      unfolding split_point
      point_form why e = rw (sym test, sound, sym address, good, sym form, e)

      module _ (formed : f ≡ Ok tt) (i : Bool) (inside : i ≡ insideb s at) where
        pub point_inside : i ≡ true → Ok tt ≡ split_point m s at
        unfolding split_point
        point_inside e = rw (sym test, sound, sym address, good, sym form, formed, sym inside, e)

        pub point_outside : i ≡ false → Err InvalidSplitPoint ≡ split_point m s at
        unfolding split_point
        point_outside e = rw (sym test, sound, sym address, good, sym form, formed, sym inside, e)

-- what a point that is not refused says
module _ (m : VirtualMemoryManager) (s : Segment) (at : VirtAddr) (f : Result ⊤ Refusal) (point : f ≡ split_point m s at) (done : f ≡ Ok tt) where
  pub point_sound : soundb m ≡ true
  unfolding split_point
  point_sound = by_test (soundb m) (λ k. k) (λ k. absurd (err_not_ok (rw k at (sym point ∙ done))))

  pub point_is : Inside s at.0
  point_is = (inside_tells s at).yes (point_done m s at (sym point ∙ done)).1

  pub point_most : m.count ≤ 64
  point_most = sound_most m point_sound

module _ (m : VirtualMemoryManager) (s : Segment) (at : VirtAddr) (f : Result ⊤ Refusal) (point : f ≡ split_point m s at) where
  pub split_refused : (why : Refusal) → f ≡ Err why → record { answer = Err why; manager = m } ≡ split_call m s at
  unfolding split_call
  split_refused why e = rw (sym point, e)

  module _ (done : f ≡ Ok tt) (p : Option ℕ) (standing : p ≡ place_of (held m) s 0) where
    pub split_absent : p ≡ None → record { answer = Err NotReserved; manager = m } ≡ split_call m s at
    unfolding split_call
    split_absent e = rw (sym point, done, place_absent (held m) s 0 (sym standing ∙ e))

    module _ (k : ℕ) (there : p ≡ Some k) where
      was : heldb s (held m) ≡ true
      was = (place_stands (held m) s 0 k (sym standing ∙ there)).was

      pub split_full : 64 ≤ m.count → record { answer = Err TableFull; manager = m } ≡ split_call m s at
      unfolding split_call
      split_full h = rw (sym point, done, was, le-leb 64 m.count h)

      module _ (sized : length m.segments ≡ 64) (room : m.count < 64) where
        pub split_place : k < m.count
        split_place = let l = (place_stands (held m) s 0 k (sym standing ∙ there)).inside in let h = held_length m sized (omega arith) in omega arith

        removed : suc (length (removed_at k (held m))) ≡ m.count
        removed = removed_length k (held m) (rw (held_length m sized (omega arith)) split_place) ∙ held_length m sized (omega arith)

        -- one segment out, and its two parts in
        module _ (a : VirtualMemoryManager) (out : a ≡ stored m (removed_at k (held m))) where
          pub split_first : a.count < 64
          split_first = subst (λ x. x.count < 64) (sym out) (let r = removed in omega arith)

        module _ (a b : VirtualMemoryManager) (out : a ≡ stored m (removed_at k (held m))) (one : b ≡ stored a (insert (low s at) (held a))) where
          once : b ≡ stored m (insert (low s at) (removed_at k (held m)))
          once =
              one ∙ ap (λ x. stored x (insert (low s at) (held x))) out
              ∙ ap (λ t. stored (stored m (removed_at k (held m))) (insert (low s at) t)) (held_stored m (removed_at k (held m)))
              ∙ stored_stored m (removed_at k (held m)) (insert (low s at) (removed_at k (held m))) (let l = length_insert (low s at) (removed_at k (held m)) in omega arith)

          pub split_second : b.count < 64
          split_second = subst (λ x. x.count < 64) (sym once) (let l = length_insert (low s at) (removed_at k (held m)) in let r = removed in omega arith)

        module _ (a b c : VirtualMemoryManager) (out : a ≡ stored m (removed_at k (held m))) (one : b ≡ stored a (insert (low s at) (held a))) (two : c ≡ stored b (insert (high s at) (held b))) where
          twice : c ≡ stored m (insert (high s at) (insert (low s at) (removed_at k (held m))))
          twice =
              two ∙ ap (λ x. stored x (insert (high s at) (held x))) (once a b out one)
              ∙ ap (λ t. stored (stored m (insert (low s at) (removed_at k (held m)))) (insert (high s at) t)) (held_stored m (insert (low s at) (removed_at k (held m))))
              ∙ stored_stored m (insert (low s at) (removed_at k (held m))) (insert (high s at) (insert (low s at) (removed_at k (held m)))) (let l = length_insert (high s at) (insert (low s at) (removed_at k (held m))) in omega arith)

          pub split_done : record { answer = Ok (low s at, high s at); manager = c } ≡ split_call m s at
          unfolding split_call
          split_done =
              let st = place_stands (held m) s 0 k (sym standing ∙ there) in
              let rest : remove s (held m) ≡ removed_at k (held m) = st.rest ∙ ap (λ (n : ℕ). removed_at n (held m)) (let z : k - 0 ≡ k = omega arith in z) in
              rw (sym point, done, st.was, lt-leb 64 m.count room, rest, twice)

-- ---- the list

module _ (m : VirtualMemoryManager) (b : Bool) (test : b ≡ soundb m) where
  pub list_unsound : b ≡ false → record { answer = Err BadTable; segments = replicate 64 no_segment } ≡ list_call m
  unfolding list_call
  list_unsound e = rw (sym test, e)

  pub list_held : b ≡ true → (t : List Segment) → t ≡ held m ++ replicate (64 - m.count) no_segment → record { answer = Ok m.count; segments = t } ≡ list_call m
  unfolding list_call
  list_held e t p = rw (sym test, e, p)
