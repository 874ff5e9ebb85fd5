-- The ways through each call: it refuses and leaves the manager as it was, or it does what it was asked for.
use Rattle.std.specs.Prelude.{◌≡◌, refl, ◌⊎◌, ℕ, ◌-◌, ◌<◌, ltb, leb, Option, Some, None, Result, Ok, Err, ⊤}
use Rattle.std.proofs.Common.{inl, inr, arith, leb-false, ltb-true}
use mathlib.Core.Bool.{true, false, and-eq-true_iff}
use Rattle.answers.specs.declared.Refusal.{Refusal}
use Rattle.laws.specs.ResultLaws.{err_not_ok}
use Rattle.answers.specs.declared.Refusal.TheVariants.{BadTable, NoSpace, SegmentReserved, NotReserved, TableFull}
use Rattle.address.specs.declared.VirtAddr.{VirtAddr}
use Rattle.address.specs.Canonical.{canonical}
use Rattle.address.specs.Pages.{aligned}
use Rattle.segment.specs.declared.Segment.{Segment}
use Rattle.segment.specs.Form.{start_of, form_of}
use Rattle.segments.specs.declared.table.VirtualMemoryManager.{VirtualMemoryManager}
use Rattle.segments.specs.Table.{held, stored, soundb, insert, empty, remove, heldb, Formed}
use Rattle.segments.specs.Calls.{segment, new_call, lowest, reserve_call, checked_by, overlapsb, mark_call, release_call, insideb, point_as, split_point, low, high, split_call}
use Rattle.segment_search.specs.TriesLaws.{by_test}

-- ---- a new manager

pub new_ways : (start : VirtAddr) (size : ℕ)
    → ((why : Refusal) × (new_call start size ≡ record { answer = Err why; manager = empty (record { 0 = 0 }) 0 }))
    ⊎ (Formed (record { start = start; len = size }) × (new_call start size ≡ record { answer = Ok tt; manager = empty start size }))
unfolding new_call
new_ways start size = at (form_of (record { start = start; len = size })) refl
  where
    at : (f : Result ⊤ Refusal) → form_of (record { start = start; len = size }) ≡ f
        → ((why : Refusal) × (new_call start size ≡ record { answer = Err why; manager = empty (record { 0 = 0 }) 0 }))
        ⊎ (Formed (record { start = start; len = size }) × (new_call start size ≡ record { answer = Ok tt; manager = empty start size }))
    at (Ok tt) e = inr (e, rw e)
    at (Err why) e = inl (why, rw e)

-- ---- reserving

pub record Reserves (m : VirtualMemoryManager) (len : ℕ) : Type 0 where
  pub sound : soundb m ≡ true
  pub start : ℕ
  pub restarts : ℕ
  pub found : lowest m len ≡ Some (start, restarts)
  pub room : m.count < 64
  pub is : reserve_call m len ≡ record { answer = Ok (segment start len, restarts); manager = stored m (insert (segment start len) (held m)) }

pub reserve_ways : (m : VirtualMemoryManager) (len : ℕ) → ((why : Refusal) × (reserve_call m len ≡ record { answer = Err why; manager = m })) ⊎ Reserves m len
unfolding reserve_call
reserve_ways m len = by_test (soundb m) (λ s. at s (lowest m len) refl) (λ n. inl (BadTable, rw n))
  where
    at : soundb m ≡ true → (f : Option (ℕ × ℕ)) → lowest m len ≡ f → ((why : Refusal) × (reserve_call m len ≡ record { answer = Err why; manager = m })) ⊎ Reserves m len
    at s None e = inl (NoSpace, rw (s, e))
    at s (Some (a, r)) e =
        by_test (leb 64 m.count) (λ k. inl (TableFull, rw (s, e, k))) (λ k. inr (record { sound = s; start = a; restarts = r; found = e; room = leb-false 64 m.count k; is = rw (s, e, k) }))

-- ---- marking and releasing

checked_formed : (m : VirtualMemoryManager) (s : Segment) → checked_by m s ≡ Ok tt → Formed s
unfolding checked_by
checked_formed m s e = by_test (soundb m) (λ k. rw k at e) (λ k. absurd (clash k))
  where
    clash : soundb m ≡ false → ⊥
    clash k = err_not_ok (rw k at e)

pub record Marks (m : VirtualMemoryManager) (s : Segment) : Type 0 where
  pub formed : Formed s
  pub clear : overlapsb (held m) s ≡ false
  pub new : heldb s (held m) ≡ false
  pub room : m.count < 64
  pub is : mark_call m s ≡ record { answer = Ok tt; manager = stored m (insert s (held m)) }

pub mark_ways : (m : VirtualMemoryManager) (s : Segment)
    → ((why : Refusal) × (mark_call m s ≡ record { answer = Err why; manager = m })) ⊎ ((mark_call m s ≡ record { answer = Ok tt; manager = m }) ⊎ Marks m s)
unfolding mark_call
mark_ways m s = at (checked_by m s) refl
  where
    at : (f : Result ⊤ Refusal) → checked_by m s ≡ f
        → ((why : Refusal) × (mark_call m s ≡ record { answer = Err why; manager = m })) ⊎ ((mark_call m s ≡ record { answer = Ok tt; manager = m }) ⊎ Marks m s)
    at (Err why) e = inl (why, rw e)
    at (Ok tt) e =
        by_test (overlapsb (held m) s) (λ o. inl (SegmentReserved, rw (e, o)))
        (λ o. by_test (heldb s (held m)) (λ h. inr (inl (rw (e, o, h))))
        (λ h. by_test (leb 64 m.count) (λ k. inl (TableFull, rw (e, o, h, k)))
        (λ k. inr (inr (record { formed = checked_formed m s e; clear = o; new = h; room = leb-false 64 m.count k; is = rw (e, o, h, k) })))))

pub record Releases (m : VirtualMemoryManager) (s : Segment) : Type 0 where
  pub formed : Formed s
  pub was : heldb s (held m) ≡ true
  pub is : release_call m s ≡ record { answer = Ok true; manager = stored m (remove s (held m)) }

pub release_ways : (m : VirtualMemoryManager) (s : Segment)
    → ((why : Refusal) × (release_call m s ≡ record { answer = Err why; manager = m })) ⊎ ((release_call m s ≡ record { answer = Ok false; manager = m }) ⊎ Releases m s)
unfolding release_call
release_ways m s = at (checked_by m s) refl
  where
    at : (f : Result ⊤ Refusal) → checked_by m s ≡ f
        → ((why : Refusal) × (release_call m s ≡ record { answer = Err why; manager = m })) ⊎ ((release_call m s ≡ record { answer = Ok false; manager = m }) ⊎ Releases m s)
    at (Err why) e = inl (why, rw e)
    at (Ok tt) e = by_test (heldb s (held m)) (λ h. inr (inr (record { formed = checked_formed m s e; was = h; is = rw (e, h) }))) (λ h. inr (inl (rw (e, h))))

-- ---- splitting

pub record Splits (m : VirtualMemoryManager) (s : Segment) (at : VirtAddr) : Type 0 where
  pub formed : Formed s
  pub starts : start_of s < at.0
  pub ends : at.0 - start_of s < s.len
  pub was : heldb s (held m) ≡ true
  pub room : m.count < 64
  pub is : split_call m s at ≡ record { answer = Ok (low s at, high s at); manager = stored m (insert (high s at) (insert (low s at) (remove s (held m)))) }

-- a point that is not refused is inside a segment of good form
pub point_done : (m : VirtualMemoryManager) (s : Segment) (at : VirtAddr) → split_point m s at ≡ Ok tt → Formed s × (insideb s at ≡ true)
unfolding split_point
point_done m s at e =
    by_test (soundb m) (λ k. by_test (canonical at.0) (λ c. formed (form_of s) refl (rw (k, c) at e)) (λ c. absurd (err_not_ok (rw (k, c) at e)))) (λ k. absurd (err_not_ok (rw k at e)))
  where
    formed : (f : Result ⊤ Refusal) → form_of s ≡ f → point_as f s at ≡ Ok tt → Formed s × (insideb s at ≡ true)
    formed (Err why) p q = absurd (err_not_ok q)
    formed (Ok tt) p q = (p, by_test (insideb s at) (λ i. i) (λ i. absurd (err_not_ok (rw i at q))))

inside_strictly : (s : Segment) (at : VirtAddr) → insideb s at ≡ true → (start_of s < at.0) × (at.0 - start_of s < s.len)
unfolding insideb
inside_strictly s at e =
    let p = (and-eq-true_iff (aligned at.0) _).0 e in
    let q = (and-eq-true_iff (ltb (start_of s) at.0) (ltb (at.0 - start_of s) s.len)).0 p.1 in
    (ltb-true (start_of s) at.0 q.0, ltb-true (at.0 - start_of s) s.len q.1)

pub split_ways : (m : VirtualMemoryManager) (s : Segment) (at : VirtAddr) → ((why : Refusal) × (split_call m s at ≡ record { answer = Err why; manager = m })) ⊎ Splits m s at
unfolding split_call
split_ways m s at = by (split_point m s at) refl
  where
    by : (f : Result ⊤ Refusal) → split_point m s at ≡ f → ((why : Refusal) × (split_call m s at ≡ record { answer = Err why; manager = m })) ⊎ Splits m s at
    by (Err why) e = inl (why, rw e)
    by (Ok tt) e =
        by_test (heldb s (held m))
        (λ h. by_test (leb 64 m.count) (λ k. inl (TableFull, rw (e, h, k)))
        (λ k. inr (let p = point_done m s at e in let q = inside_strictly s at p.1 in record { formed = p.0; starts = q.0; ends = q.1; was = h; room = leb-false 64 m.count k; is = rw (e, h, k) })))
        (λ h. inl (NotReserved, rw (e, h)))
