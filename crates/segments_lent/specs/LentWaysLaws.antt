-- The ways through the calls on lent words past their first tests: what is answered and left is what the definition says.
use Rattle.std.specs.Prelude.{◌≡◌, refl, Bool, true, false, List, ℕ, ◌≤◌, ◌<◌, length, Option, Some, None, Result, Ok, Err, ⊤}
use Rattle.std.proofs.Common.{sym, ◌∙◌, arith}
use Rattle.answers.specs.declared.Refusal.{Refusal}
use Rattle.answers.specs.declared.Refusal.TheVariants.{NoSpace, SegmentReserved, NotReserved, TableFull}
use Rattle.address.specs.declared.VirtAddr.{VirtAddr}
use Rattle.segment.specs.declared.Segment.{Segment}
use Rattle.segments.specs.declared.table.VirtualMemoryManager.{VirtualMemoryManager}
use Rattle.segments.specs.Table.{held, stored, soundb, insert, removed_at, position, place_of}
use Rattle.segments.specs.Calls.{segment, lowest, overlapsb, low, high}
use Rattle.segments.specs.CallLaws as call
use Rattle.segments.specs.CallTestLaws.{Inside}
use Rattle.segments.specs.RuleLaws.{sound_tells}
use Rattle.segments_lent.specs.LentWords.{manager_of, row_put, lent_sound}
use Rattle.segments_lent.specs.LentWordsLaws.{sized, lent_sound_is}
use Rattle.segments_lent.specs.LentCalls.{left, reserve_lent, mark_lent, release_lent, split_lent, checked_lent, point_lent}
use Rattle.segments_lent.specs.LentCallsLaws.{reserve_left, mark_left, release_left, split_left, checked_length, checked_by_is, point_length, point_by}
use Rattle.segments_lent.specs.PlaceIn.{place_in}
use Rattle.segments_lent.specs.PlaceInLaws.{place_held, place_row, place_absent, place_where}
use Rattle.segments_lent.specs.PartPutLaws.{part_put}

-- ---- reserving

module _ (w : List ℕ) (len : ℕ) (b : Bool) (test : b ≡ lent_sound w) (yes : b ≡ true) where
  pub lent_both : (length w ≡ 131) × (soundb (manager_of w) ≡ true)
  lent_both = lent_sound_is w (sym test ∙ yes)

  module _ (f : Option (ℕ × ℕ)) (low : f ≡ lowest (manager_of w) len) where
    pub reserve_no_space : f ≡ None → left (Err NoSpace) w ≡ reserve_lent w len
    reserve_no_space e =
        reserve_left w w lent_both.0 lent_both.0 len (Err NoSpace)
        (call.reserve_no_space (manager_of w) len (soundb (manager_of w)) refl lent_both.1 f low e)

    module _ (start restarts : ℕ) (free : f ≡ Some (start, restarts)) where
      pub reserve_full : 64 ≤ (manager_of w).count → left (Err TableFull) w ≡ reserve_lent w len
      reserve_full h =
          reserve_left w w lent_both.0 lent_both.0 len (Err TableFull)
          (call.reserve_table_full (manager_of w) len (soundb (manager_of w)) refl lent_both.1 f low start restarts free h)

      pub reserve_done : (manager_of w).count < 64 → (v : List ℕ) → length v ≡ length w → manager_of v ≡ stored (manager_of w) (insert (segment start len) (held (manager_of w)))
          → left (Ok (segment start len, restarts)) v ≡ reserve_lent w len
      reserve_done h v l e =
          reserve_left w v lent_both.0 (l ∙ lent_both.0) len (Ok (segment start len, restarts))
          (call.reserve_done (manager_of w) len (soundb (manager_of w)) refl lent_both.1 f low start restarts free h (manager_of v) e)

-- ---- marking and releasing

module _ (w : List ℕ) (s : Segment) (f : Result ⊤ Refusal) (checked : f ≡ checked_lent w s) (done : f ≡ Ok tt) where
  sound : soundb (manager_of w) ≡ true
  sound = call.checked_sound (manager_of w) s (sym (checked_by_is w s f checked done) ∙ done)

  pub lent_most : (length w ≡ 131) × ((manager_of w).count ≤ 64)
  lent_most = (checked_length w s f checked done, call.sound_most (manager_of w) sound)

  module _ (p : Result ℕ ℕ) (at : p ≡ place_in (held (manager_of w)) s) (k : ℕ) where
    pub release_no : p ≡ Err k → left (Ok false) w ≡ release_lent w s
    release_no e =
        release_left w w lent_most.0 lent_most.0 s (Ok false)
        (call.release_no (manager_of w) s f (checked_by_is w s f checked done) done (place_of (held (manager_of w)) s 0) refl (place_absent (manager_of w) sound s p at k e))

    pub release_inside : p ≡ Ok k → k < (manager_of w).count
    release_inside e = call.release_inside (manager_of w) s f (checked_by_is w s f checked done) done (place_of (held (manager_of w)) s 0) refl k (place_held (manager_of w) sound s p at k e) (sized w)

    pub release_yes : p ≡ Ok k → (v : List ℕ) → length v ≡ length w → manager_of v ≡ stored (manager_of w) (removed_at k (held (manager_of w))) → left (Ok true) v ≡ release_lent w s
    release_yes e v l r =
        release_left w v lent_most.0 (l ∙ lent_most.0) s (Ok true)
        (call.release_yes (manager_of w) s f (checked_by_is w s f checked done) done (place_of (held (manager_of w)) s 0) refl k (place_held (manager_of w) sound s p at k e) (manager_of v) r)

    pub mark_where : p ≡ Err k → k ≡ position (held (manager_of w)) s
    mark_where e = place_where (held (manager_of w)) s p at k e

    module _ (o : Bool) (over : o ≡ overlapsb (held (manager_of w)) s) (clear : o ≡ false) where
      pub mark_again : p ≡ Ok k → left (Ok tt) w ≡ mark_lent w s
      mark_again e =
          mark_left w w lent_most.0 lent_most.0 s (Ok tt)
          (call.mark_again (manager_of w) s f (checked_by_is w s f checked done) done (place_of (held (manager_of w)) s 0) refl o over clear k (place_held (manager_of w) sound s p at k e))

      module _ (e : p ≡ Err k) where
        pub mark_full : 64 ≤ (manager_of w).count → left (Err TableFull) w ≡ mark_lent w s
        mark_full h =
            mark_left w w lent_most.0 lent_most.0 s (Err TableFull)
            (call.mark_full (manager_of w) s f (checked_by_is w s f checked done) done (place_of (held (manager_of w)) s 0) refl o over clear (place_absent (manager_of w) sound s p at k e) h)

        pub mark_done : (manager_of w).count < 64 → (v : List ℕ) → length v ≡ length w → manager_of v ≡ stored (manager_of w) (insert s (held (manager_of w))) → left (Ok tt) v ≡ mark_lent w s
        mark_done h v l i =
            mark_left w v lent_most.0 (l ∙ lent_most.0) s (Ok tt)
            (call.mark_done (manager_of w) s f (checked_by_is w s f checked done) done (place_of (held (manager_of w)) s 0) refl o over clear (place_absent (manager_of w) sound s p at k e) h (manager_of v) i)

  pub mark_reserved : (o : Bool) → o ≡ overlapsb (held (manager_of w)) s → o ≡ true → left (Err SegmentReserved) w ≡ mark_lent w s
  mark_reserved o over e =
      mark_left w w lent_most.0 lent_most.0 s (Err SegmentReserved)
      (call.mark_reserved (manager_of w) s f (checked_by_is w s f checked done) done (place_of (held (manager_of w)) s 0) refl o over e)

-- ---- splitting

module _ (w : List ℕ) (s : Segment) (at : VirtAddr) (f : Result ⊤ Refusal) (point : f ≡ point_lent w s at) (done : f ≡ Ok tt) where
  right : soundb (manager_of w) ≡ true
  right = call.point_sound (manager_of w) s at f (point_by w s at f point done) done

  pub point_most : (length w ≡ 131) × ((manager_of w).count ≤ 64)
  point_most = (point_length w s at f point done, call.sound_most (manager_of w) right)

  pub point_inside : Inside s at.0
  point_inside = call.point_is (manager_of w) s at f (point_by w s at f point done) done

  module _ (p : Result ℕ ℕ) (stand : p ≡ place_in (held (manager_of w)) s) (k : ℕ) where
    pub split_absent : p ≡ Err k → left (Err NotReserved) w ≡ split_lent w s at
    split_absent e =
        split_left w w point_most.0 point_most.0 s at (Err NotReserved)
        (call.split_absent (manager_of w) s at f (point_by w s at f point done) done (place_of (held (manager_of w)) s 0) refl (place_absent (manager_of w) right s p stand k e))

    module _ (e : p ≡ Ok k) where
      pub split_full : 64 ≤ (manager_of w).count → left (Err TableFull) w ≡ split_lent w s at
      split_full h =
          split_left w w point_most.0 point_most.0 s at (Err TableFull)
          (call.split_full (manager_of w) s at f (point_by w s at f point done) done (place_of (held (manager_of w)) s 0) refl k (place_held (manager_of w) right s p stand k e) h)

      module _ (room : (manager_of w).count < 64) where
        pub split_place : k < (manager_of w).count
        split_place = call.split_place (manager_of w) s at f (point_by w s at f point done) done (place_of (held (manager_of w)) s 0) refl k (place_held (manager_of w) right s p stand k e) (sized w) room

        -- the segment's row with its lower part is the table without the segment, and the part put in
        module _ (b : List ℕ) (put : manager_of b ≡ row_put (manager_of w) k (low s at)) where
          abbrev out : VirtualMemoryManager
          out = stored (manager_of w) (removed_at k (held (manager_of w)))

          one : manager_of b ≡ stored out (insert (low s at) (held out))
          one = let i = point_inside in put ∙ part_put s (low s at) refl (omega arith) (omega arith) (manager_of w) (sized w) point_most.1 k split_place ((sound_tells (manager_of w)).yes right).apart (place_row (held (manager_of w)) s p stand k e)

          pub split_second : (manager_of b).count < 64
          split_second = call.split_second (manager_of w) s at f (point_by w s at f point done) done (place_of (held (manager_of w)) s 0) refl k (place_held (manager_of w) right s p stand k e) (sized w) room out (manager_of b) refl one

          pub split_done : (v : List ℕ) → length v ≡ length w → manager_of v ≡ stored (manager_of b) (insert (high s at) (held (manager_of b))) → left (Ok (low s at, high s at)) v ≡ split_lent w s at
          split_done v l two =
              split_left w v point_most.0 (l ∙ point_most.0) s at (Ok (low s at, high s at))
              (call.split_done (manager_of w) s at f (point_by w s at f point done) done (place_of (held (manager_of w)) s 0) refl k (place_held (manager_of w) right s p stand k e) (sized w) room out (manager_of b) (manager_of v) refl one two)
