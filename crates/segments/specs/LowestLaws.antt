-- Reserving finds the lowest free start, says NoSpace exactly if there is none, and starts over once for each segment passed.
use Rattle.laws.specs.ResultLaws.{some_not_none}
use Rattle.std.proofs.Math.Path.{◌≡◌}
use Rattle.std.specs.Prelude.{refl, ◌⊎◌, ℕ, suc, ◌+◌, ◌-◌, ◌≤◌, ◌<◌, eqb, ltb, Option, Some, None}
use Rattle.std.proofs.Common.{sym, ap, subst, ◌∙◌, inl, inr, arith}
use Rattle.std.proofs.Math.Logic.{⊎_elim}
use borrow.Author.Tests.{ltb-true, ltb-false, eqb-true, eqb-false, lt-ltb, le-ltb, eq-eqb, ne_eqb}
use Rattle.segments.specs.declared.table.VirtualMemoryManager.{VirtualMemoryManager}
use Rattle.segment.specs.Form.{start_of, last_of}
use Rattle.segments.specs.Table.{held, arena, Rule}
use Rattle.segment_search.specs.Search.{count, ahead, search}
use Rattle.segments.specs.Calls.{lowest}
use Rattle.segment_search.specs.TriesLaws.{by_test}
use Rattle.segments.specs.FreeStart.{FreeStart, LowestStart, passedb}
use Rattle.segments.specs.LowestTryLaws.{Right, tries_right}
use Rattle.segments.specs.RestartTryLaws.{restarts_passed}

module _ (m : VirtualMemoryManager) (len : ℕ) where
  lowest_search : (len ≡ 0 → ⊥) → len ≤ m.mem_size → lowest m len ≡ search (held m) (last_of (arena m)) len (start_of (arena m)) 0
  unfolding lowest
  lowest_search n l = rw (ne_eqb len 0 n, le-ltb m.mem_size len l)

  lowest_none : (len ≡ 0) ⊎ (m.mem_size < len) → lowest m len ≡ None
  unfolding lowest
  lowest_none (inl z) = rw (eq-eqb len 0 z)
  lowest_none (inr l) = by_test (eqb len 0) (λ e. rw e) (λ e. rw (e, lt-ltb m.mem_size len l))

  sized : ((len ≡ 0) ⊎ (m.mem_size < len)) ⊎ ((len ≡ 0 → ⊥) × (len ≤ m.mem_size))
  sized = by_test (eqb len 0) (λ e. inl (inl (eqb-true len 0 e))) (λ n. by_test (ltb m.mem_size len) (λ l. inl (inr (ltb-true m.mem_size len l))) (λ l. inr (eqb-false len 0 n, ltb-false m.mem_size len l)))

  searched : Right (held m) (last_of (arena m)) len (start_of (arena m)) (search (held m) (last_of (arena m)) len (start_of (arena m)) 0)
  unfolding search
  searched = tries_right (held m) (last_of (arena m)) len (suc (ahead (held m) (start_of (arena m)))) (start_of (arena m)) 0 (omega arith)

  -- the start answered is the lowest free one
  pub free_lowest : (a r : ℕ) → lowest m len ≡ Some (a, r) → LowestStart m len a
  free_lowest a r e = ⊎_elim none some sized
    where
      none : (len ≡ 0) ⊎ (m.mem_size < len) → LowestStart m len a
      none n = absurd (some_not_none (sym e ∙ lowest_none n))

      some : (len ≡ 0 → ⊥) × (len ≤ m.mem_size) → LowestStart m len a
      some s = record { free = record { some = omega arith; above = k.0; below = omega (arith, k.1); clear = k.2 }; least = λ x l f. k.3 x f.above l f.clear }
        where
          k : Right (held m) (last_of (arena m)) len (start_of (arena m)) (Some (a, r))
          k = subst (Right (held m) (last_of (arena m)) len (start_of (arena m))) (sym (lowest_search s.0 s.1) ∙ e) searched

  -- its last byte is at most the arena's
  pub free_last : (a : ℕ) → FreeStart m len a → a + (len - 1) ≤ last_of (arena m)
  free_last a f = omega arith

  -- NoSpace exactly if there is none
  pub full_none : lowest m len ≡ None → (x : ℕ) → FreeStart m len x → ⊥
  full_none e x f = ⊎_elim none some sized
    where
      none : (len ≡ 0) ⊎ (m.mem_size < len) → ⊥
      none (inl z) = omega (arith, f.some)
      none (inr l) = omega (arith, f.above, f.below)

      some : (len ≡ 0 → ⊥) × (len ≤ m.mem_size) → ⊥
      some s = subst (Right (held m) (last_of (arena m)) len (start_of (arena m))) (sym (lowest_search s.0 s.1) ∙ e) searched x f.above (omega (arith, f.below, f.some)) f.clear

  pub none_full : ((x : ℕ) → FreeStart m len x → ⊥) → lowest m len ≡ None
  none_full n = at (lowest m len) refl
    where
      at : (f : Option (ℕ × ℕ)) → lowest m len ≡ f → lowest m len ≡ None
      at None e = e
      at (Some (a, r)) e = absurd (n a (free_lowest a r e).free)

  -- there is only one lowest start, and the search answers it
  pub lowest_one : (a b : ℕ) → LowestStart m len a → LowestStart m len b → a ≡ b
  lowest_one a b p q =
      by_test (ltb a b) (λ l. absurd (q.least a (ltb-true a b l) p.free))
      (λ l. by_test (ltb b a) (λ k. absurd (p.least b (ltb-true b a k) q.free)) (λ k. omega (arith, ltb-false a b l, ltb-false b a k)))

  pub lowest_found : (a : ℕ) → LowestStart m len a → (r : ℕ) × (lowest m len ≡ Some (a, r))
  lowest_found a p = at (lowest m len) refl
    where
      at : (f : Option (ℕ × ℕ)) → lowest m len ≡ f → (r : ℕ) × (lowest m len ≡ Some (a, r))
      at None e = absurd (full_none e a p.free)
      at (Some (b, r)) e = (r, e ∙ ap (λ (x : ℕ). Some (x, r)) (lowest_one b a (free_lowest b r e) p))

  -- it started over once for each segment passed: not empty, its last byte at or above the arena's start, its start below the answer
  pub restarts_count : Rule m → (a r : ℕ) → lowest m len ≡ Some (a, r) → r ≡ count (passedb (start_of (arena m)) a) (held m)
  unfolding search
  restarts_count u a r e = ⊎_elim none some sized
    where
      none : (len ≡ 0) ⊎ (m.mem_size < len) → r ≡ count (passedb (start_of (arena m)) a) (held m)
      none n = absurd (some_not_none (sym e ∙ lowest_none n))

      some : (len ≡ 0 → ⊥) × (len ≤ m.mem_size) → r ≡ count (passedb (start_of (arena m)) a) (held m)
      some s = omega (arith, restarts_passed (held m) u.apart (last_of (arena m)) len (suc (ahead (held m) (start_of (arena m)))) (start_of (arena m)) 0 a r (omega arith) (sym (lowest_search s.0 s.1) ∙ e))
