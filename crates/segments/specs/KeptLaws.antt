-- Every call keeps the rule of the table and its 64 rows.
use Rattle.std.specs.Prelude.{◌≡◌, refl, ◌⊎◌, List, [], ◌∷◌, ℕ, ◌≤◌, ◌<◌, eqb, ltb, length, drop, Option, Some, None}
use Rattle.std.proofs.Common.{sym, ap, subst, ◌∙◌, inl, inr, ⊎_elim, arith, length-append, length-take, length-drop, ltb-true, ltb-false, eqb-true}
use mathlib.Core.Bool.{true, false}
use Rattle.std.proofs.lemmas.List.{length-replicate}
use Rattle.std.proofs.Math.Seq.{take-append_seam}
use Rattle.std.proofs.lemmas.Bool.{eqb-false}
use Rattle.address.specs.declared.VirtAddr.{VirtAddr}
use Rattle.address.specs.Canonical.{canonical}
use Rattle.segment.specs.declared.Segment.{Segment}
use Rattle.segments.specs.declared.table.VirtualMemoryManager.{VirtualMemoryManager}
use Rattle.segment.specs.Form.{start_of, last_of, emptyb, form_of, sameb, Same, Over}
use Rattle.segment.specs.FormLaws.{same_tells}
use Rattle.segments.specs.Table.{held, arena, stored, no_segment, insert, empty, All, Pairs, Formed, Apart, Rule, remove, heldb}
use Rattle.segment_search.specs.Search.{first_over}
use Rattle.segments.specs.Calls.{segment, new_call, reserve_call, is_in, overlapsb, mark_call, release_call, low, high, split_call}
use Rattle.segment_search.specs.TriesLaws.{by_test}
use Rattle.segments.specs.RuleLaws.{all_map}
use Rattle.segments.specs.FreeStart.{FreeStart}
use Rattle.segments.specs.LowestTryLaws.{none_over}
use Rattle.segments.specs.LowestLaws.{free_lowest}
use Rattle.segments.specs.InsertLaws.{Beside, part_beside, all_insert, pairs_insert, length_insert, all_remove, pairs_remove, length_remove, remove_beside}
use Rattle.segments.specs.FormedLaws.{Part, part_formed}
use Rattle.segments.specs.Run.{Call, run}
use Rattle.segments.specs.Run.Call.{new, reserve, mark, release, split, list}
use Rattle.segments.specs.CallWayLaws.{Reserves, Splits, new_ways, reserve_ways, mark_ways, release_ways, split_ways}

-- ---- a table that is kept

pub record Kept (m after : VirtualMemoryManager) : Type 0 where
  pub rule : Rule after
  pub rows : length m.segments ≡ 64 → length after.segments ≡ 64

module _ (m : VirtualMemoryManager) (u : Rule m) where
  kept_same : Kept m m
  kept_same = record { rule = u; rows = λ h. h }

  -- a list that keeps the rule may take the place of the one held
  kept_stored : (t : List Segment) → length t ≤ 64 → All Formed t → Pairs Apart t → Kept m (stored m t)
  kept_stored t l f p =
      record {
        rule = record { arena_formed = u.arena_formed; counted = l; formed = rw (take-append_seam t (drop (length t) m.segments)) f; apart = rw (take-append_seam t (drop (length t) m.segments)) p };
        rows = λ h. rw (length-append, length-drop) (omega arith);
      }

  few : length (held m) ≤ m.count
  few = omega (arith, length-take m.count m.segments)

  -- one segment more
  kept_insert : (s : Segment) → m.count < 64 → Formed s → All (Beside s) (held m) → Kept m (stored m (insert s (held m)))
  kept_insert s l f b =
      kept_stored (insert s (held m)) (omega (arith, few, length_insert s (held m))) (all_insert s Formed f (held m) u.formed) (pairs_insert s (held m) b u.apart)

-- ---- a segment to put in is beside all that are held

-- nothing in its way
clear_beside : (s x : Segment) → (s.len ≡ 0 → ⊥) → (Over x (start_of s) (last_of s) → ⊥) → Beside s x
clear_beside s x n c = record { other = λ e. c (record { some = λ z. n (sym e.lens ∙ z); reaches = omega (arith, e.starts); begins = omega (arith, e.starts) }); disjoint = disjoint }
  where
    disjoint : (x.len ≡ 0) ⊎ ((s.len ≡ 0) ⊎ ((last_of x < start_of s) ⊎ (last_of s < start_of x)))
    disjoint =
        by_test (eqb x.len 0) (λ z. inl (eqb-true x.len 0 z))
        (λ z. by_test (ltb (last_of x) (start_of s)) (λ l. inr (inr (inl (ltb-true (last_of x) (start_of s) l))))
        (λ l. by_test (ltb (last_of s) (start_of x)) (λ k. inr (inr (inr (ltb-true (last_of s) (start_of x) k))))
        (λ k. absurd (c (record { some = eqb-false x.len 0 z; reaches = ltb-false (last_of x) (start_of s) l; begins = ltb-false (last_of s) (start_of x) k })))))

held_none : (s : Segment) (t : List Segment) → heldb s t ≡ false → All (λ x. Same x s → ⊥) t
unfolding heldb
held_none s [] h = tt
held_none s (x ∷ t) h = by_test (sameb x s) (λ e. absurd (mathlib.Core.Bool.true≢false (rw e at h))) (λ e. ((same_tells x s).no e, held_none s t (rw e at h)))

mark_beside : (s : Segment) (t : List Segment) → overlapsb t s ≡ false → heldb s t ≡ false → All (Beside s) t
unfolding overlapsb
mark_beside s t o h = by_test (emptyb s) none some
  where
    nothing : (f : Option Segment) → is_in f ≡ false → f ≡ None
    nothing None e = refl
    nothing (Some x) e = absurd (mathlib.Core.Bool.true≢false e)

    none : emptyb s ≡ true → All (Beside s) t
    none e = all_map (λ x n. record { other = n; disjoint = inr (inl (eqb-true s.len 0 e)) }) t (held_none s t h)

    some : emptyb s ≡ false → All (Beside s) t
    some e = all_map (λ x c. clear_beside s x (eqb-false s.len 0 e) c) t (none_over (start_of s) (last_of s) t (nothing (first_over t (start_of s) (last_of s)) (rw e at o)))

-- ---- the calls

pub new_rule : (start : VirtAddr) (size : ℕ) → Rule (new_call start size).manager × (length (new_call start size).manager.segments ≡ 64)
unfolding form_of canonical
new_rule start size = ⊎_elim (λ w. subst Fresh (sym (ap (λ a. a.manager) w.1)) (fresh (record { 0 = 0 }) 0 refl)) (λ w. subst Fresh (sym (ap (λ a. a.manager) w.1)) (fresh start size w.0)) (new_ways start size)
  where
    Fresh : VirtualMemoryManager → Type 0
    Fresh m = Rule m × (length m.segments ≡ 64)

    fresh : (start : VirtAddr) (size : ℕ) → Formed (record { start = start; len = size }) → Fresh (empty start size)
    fresh start size f = (record { arena_formed = f; counted = omega arith; formed = tt; apart = tt }, length-replicate 64 no_segment)

module _ (m : VirtualMemoryManager) (u : Rule m) where
  pub reserve_kept : (len : ℕ) → Kept m (reserve_call m len).manager
  reserve_kept len = ⊎_elim (λ w. rw w.1 (kept_same m u)) (λ w. rw w.is (grants w)) (reserve_ways m len)
    where
      grants : (w : Reserves m len) → Kept m (stored m (insert (segment w.start len) (held m)))
      grants w = kept_insert m u (segment w.start len) w.room formed (all_map (λ x c. clear_beside (segment w.start len) x (λ z. omega (arith, f.some)) c) (held m) f.clear)
        where
          f : FreeStart m len w.start
          f = (free_lowest m len w.start w.restarts w.found).free

          formed : Formed (segment w.start len)
          formed = part_formed (arena m) (segment w.start len) (record { whole = λ z. omega (arith, f); some = λ z. omega (arith, f.some); from = f.above; upto = omega (arith, f) }) u.arena_formed

  pub mark_kept : (s : Segment) → Kept m (mark_call m s).manager
  mark_kept s = ⊎_elim (λ w. rw w.1 (kept_same m u)) (⊎_elim (λ w. rw w (kept_same m u)) (λ w. rw w.is (kept_insert m u s w.room w.formed (mark_beside s (held m) w.clear w.new)))) (mark_ways m s)

  pub release_kept : (s : Segment) → Kept m (release_call m s).manager
  release_kept s = ⊎_elim (λ w. rw w.1 (kept_same m u)) (⊎_elim (λ w. rw w (kept_same m u)) (λ w. rw w.is (removed w.was))) (release_ways m s)
    where
      removed : heldb s (held m) ≡ true → Kept m (stored m (remove s (held m)))
      removed h = kept_stored m u (remove s (held m)) (omega (arith, few m u, u.counted, length_remove s (held m) h)) (all_remove s Formed (held m) u.formed) (pairs_remove s Apart (held m) u.apart)

  pub split_kept : (s : Segment) (at : VirtAddr) → Kept m (split_call m s at).manager
  split_kept s at = ⊎_elim (λ w. rw w.1 (kept_same m u)) (λ w. rw w.is (parts w)) (split_ways m s at)
    where
      parts : (w : Splits m s at) → Kept m (stored m (insert (high s at) (insert (low s at) (remove s (held m)))))
      parts w =
          kept_stored m u (insert (high s at) (insert (low s at) rest))
          (omega (arith, few m u, w.room, length_remove s (held m) w.was, length_insert (low s at) rest, length_insert (high s at) (insert (low s at) rest)))
          (all_insert (high s at) Formed (formed (high s at) high_part) (insert (low s at) rest) (all_insert (low s at) Formed (formed (low s at) low_part) rest (all_remove s Formed (held m) u.formed)))
          (pairs_insert (high s at) (insert (low s at) rest) (all_insert (low s at) (Beside (high s at)) between rest (beside (high s at) high_part))
          (pairs_insert (low s at) rest (beside (low s at) low_part) (pairs_remove s Apart (held m) u.apart)))
        where
          rest : List Segment
          rest = remove s (held m)

          low_part : Part s (low s at)
          low_part = record { whole = λ z. omega (arith, w.ends); some = λ z. omega (arith, w.starts); from = omega arith; upto = omega (arith, w.ends) }

          high_part : Part s (high s at)
          high_part = record { whole = λ z. omega (arith, w.ends); some = λ z. omega (arith, w.ends); from = omega (arith, w.starts); upto = omega (arith, w.starts, w.ends) }

          formed : (p : Segment) → Part s p → Formed p
          formed p d = part_formed s p d w.formed

          beside : (p : Segment) → Part s p → All (Beside p) rest
          beside p d = all_map (λ x b. part_beside s p x d b) rest (remove_beside s (held m) w.was u.apart)

          between : Beside (high s at) (low s at)
          between = record { other = λ e. omega (arith, w.starts, e.starts); disjoint = inr (inr (inl (omega (arith, w.starts)))) }

-- every call of a lone manager keeps the rule
pub call_keeps : (c : Call) (m : VirtualMemoryManager) → Rule m → Rule (run c m).state
call_keeps (new start size) m u = (new_rule (record { 0 = start }) size).0
call_keeps (reserve len) m u = (reserve_kept m u len).rule
call_keeps (mark start len) m u = (mark_kept m u (segment start len)).rule
call_keeps (release start len) m u = (release_kept m u (segment start len)).rule
call_keeps (split start len at) m u = (split_kept m u (segment start len) (record { 0 = at })).rule
call_keeps list m u = u

-- and its 64 rows
pub call_rows : (c : Call) (m : VirtualMemoryManager) → Rule m → length m.segments ≡ 64 → length (run c m).state.segments ≡ 64
call_rows (new start size) m u h = (new_rule (record { 0 = start }) size).1
call_rows (reserve len) m u h = (reserve_kept m u len).rows h
call_rows (mark start len) m u h = (mark_kept m u (segment start len)).rows h
call_rows (release start len) m u h = (release_kept m u (segment start len)).rows h
call_rows (split start len at) m u h = (split_kept m u (segment start len) (record { 0 = at })).rows h
call_rows list m u h = h
