-- Laws of `ListOrder`: the list of a process's attached regions: what the loop over its places knows, and regions in no list.
use Rattle.std.specs.Prelude.{◌≡◌, refl, ◌≢◌, true, false, not, ◌||◌, ◌&&◌, List, ℕ, ◌+◌, ◌≤◌, ◌<◌, length, get_or, set, take, drop, replicate, eqb, leb}
use Rattle.std.proofs.Math.Path.{ap}
use Rattle.std.proofs.Common.{sym, subst, ◌∙◌, arith, take_all, eq-eqb, ne_eqb}
use Rattle.std.proofs.Math.Bool.{Bool}
use Rattle.model.specs.declared.Region.{Region}
use Rattle.laws.specs.Lists.{part, all}
use Rattle.model.specs.Machine.{Machine, process_at, order_of}
use Rattle.model.specs.Lookup.{regions_of}
use Rattle.laws.specs.Tests.{all_rows, all_pairs}
use Rattle.model.specs.SoundTest.{listedb, pinned_if_detached, orderedb}
use Rattle.laws.specs.Loops.{Every}
use Rattle.laws.specs.LoopLaws.{every_first, every_fails, every_more, every_all}
use Rattle.laws.specs.TestLaws.{all_as_rows, rows_agree}
use Rattle.laws.specs.FirstRowsLaws.{past_taken}
use Rattle.sound_lists.specs.Marks.{marked}
use Rattle.sound_lists.specs.MarksLaws.{Marked, marked_none, marked_more, listed_low, fresh, unmarked_fresh, fresh_rows}
use Rattle.sound_lists.specs.ListOrder.{pinned_if_unmarked, is_zero}

module _ (mark : ℕ) (r : Region) where
  pub unused_passes : r.kind ≡ 0 → true ≡ pinned_if_unmarked mark r
  unused_passes e = rw (eq-eqb r.kind 0 e)

  pub marked_passes : r.kind ≢ 0 → mark ≢ 0 → true ≡ pinned_if_unmarked mark r
  marked_passes n k = rw (ne_eqb r.kind 0 n, ne_eqb mark 0 k)

  pub unmarked_pinned : r.kind ≢ 0 → mark ≡ 0 → leb 1 r.pins ≡ pinned_if_unmarked mark r
  unmarked_pinned n e = rw (ne_eqb r.kind 0 n, eq-eqb mark 0 e)

detached_rows : (marks l : List ℕ) (rs : List Region) → length rs ≡ 64 → Marked marks l → all_rows (λ s x. pinned_if_unmarked (get_or marks s 0) x) 0 rs ≡ all_rows (pinned_if_detached l) 0 rs
unfolding pinned_if_detached
detached_rows marks l rs sized old = rows_agree _ (pinned_if_detached l) 0 rs (λ s r h. ap (λ b. eqb r.kind 0 || (b || leb 1 r.pins)) (old.1 s (omega arith)))

module _ (m : Machine) (p : ℕ) where
  -- the test in the code's order
  ordered_as : (n : ℕ) → n ≡ length (order_of m p) → orderedb m p (process_at m p) ≡ (all_rows (fresh (listedb m p) (order_of m p)) 0 (order_of m p) && (all is_zero (drop n (part 64 p m.order)) && all_rows (pinned_if_detached (order_of m p)) 0 (regions_of m p)))
  unfolding orderedb order_of
  ordered_as n c =
      turn listed zeros once detached ∙ ap (λ b. b && (zeros && detached)) (sym (fresh_rows (listedb m p) (order_of m p))) ∙ ap (λ b. all_rows (fresh (listedb m p) (order_of m p)) 0 (order_of m p) && (b && detached)) (sym past)
    where
      listed : Bool
      listed = all_rows (λ i s. listedb m p s) 0 (order_of m p)

      zeros : Bool
      zeros = all_rows (λ i s. is_zero s) 0 (drop (process_at m p).attached (part 64 p m.order))

      once : Bool
      once = all_pairs (λ s. true) (λ s t. not (eqb s t)) (order_of m p)

      detached : Bool
      detached = all_rows (pinned_if_detached (order_of m p)) 0 (regions_of m p)

      turn : (a b c d : Bool) → (a && (b && (c && d))) ≡ ((a && c) && (b && d))
      turn false b c d = refl
      turn true true c d = refl
      turn true false true d = refl
      turn true false false d = refl

      past : all is_zero (drop n (part 64 p m.order)) ≡ zeros
      past = ap (λ (k : ℕ). all is_zero (drop k (part 64 p m.order))) c ∙ ap (λ x. all is_zero x) (past_taken (process_at m p).attached (part 64 p m.order)) ∙ all_as_rows is_zero 0 (drop (process_at m p).attached (part 64 p m.order))

  -- what the loop over the places knows: those that are left give the same answer, and the marks are of the slots at those before
  abbrev pub Seen : ℕ → List ℕ → ℕ → Type 0
  Seen n marks i = Every (fresh (listedb m p) (order_of m p)) (order_of m p) n i × Marked marks (take i (order_of m p))

  module _ (n : ℕ) (count : n ≡ length (order_of m p)) where
    pub seen_first : Seen n (replicate 64 0) 0
    seen_first = (every_first (fresh (listedb m p) (order_of m p)) (order_of m p) n (sym count), marked_none)

    module _ (marks : List ℕ) (i : ℕ) (seen : Seen n marks i) where
      module _ (h : i < n) (s : ℕ) (e : s ≡ get_or (order_of m p) i 0) (b : Bool) (told : b ≡ (listedb m p s && not (marked marks s))) where
        -- the slot at place i is not one in use, or listed before
        pub seen_fails : b ≡ false → false ≡ orderedb m p (process_at m p)
        seen_fails q = sym (ordered_as n count ∙ rw (sym fails))
          where
            fails : false ≡ all_rows (fresh (listedb m p) (order_of m p)) 0 (order_of m p)
            fails = every_fails (fresh (listedb m p) (order_of m p)) (order_of m p) n (sym count) i seen.0 h 0 s e (sym (unmarked_fresh m p marks (order_of m p) i s seen.1) ∙ sym told ∙ q)

        -- it is marked: go on
        pub seen_more : b ≡ true → (new : List ℕ) → new ≡ set marks s 1 → Seen n new (i + 1)
        seen_more q new put = (
          every_more (fresh (listedb m p) (order_of m p)) (order_of m p) n (sym count) i seen.0 h 0 s e (sym (unmarked_fresh m p marks (order_of m p) i s seen.1) ∙ sym told ∙ q),
          marked_more marks new (order_of m p) i s seen.1 (omega arith) e (listed_low m p s (not (marked marks s)) (sym q ∙ told)) put,
        )

      -- all places are seen
      module _ (h : n ≤ i) where
        once : true ≡ all_rows (fresh (listedb m p) (order_of m p)) 0 (order_of m p)
        once = every_all (fresh (listedb m p) (order_of m p)) (order_of m p) n (sym count) i seen.0 h

        pub not_zero : all is_zero (drop n (part 64 p m.order)) ≡ false → false ≡ orderedb m p (process_at m p)
        not_zero e = sym (ordered_as n count ∙ rw (sym once, e))

        pub ordered_if : all is_zero (drop n (part 64 p m.order)) ≡ true → length (regions_of m p) ≡ 64 → all_rows (λ s x. pinned_if_unmarked (get_or marks s 0) x) 0 (regions_of m p) ≡ orderedb m p (process_at m p)
        ordered_if e sized = detached_rows marks (order_of m p) (regions_of m p) sized (subst (λ x. Marked marks x) (take_all i (order_of m p) (omega arith)) seen.1) ∙ sym (ordered_as n count ∙ rw (sym once, e))
