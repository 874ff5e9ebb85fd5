-- Laws of `LentManager`: what the calls in place answer and leave is what the exported calls give, one law for each way.
use Rattle.laws.specs.ResultLaws.{ok_same}
use Rattle.std.specs.Prelude.{◌≡◌, ℕ, eqb, set, Result, Ok, Err, Bool, ⊤, true, false}
use Rattle.std.proofs.Math.Path.{refl, ap}
use Rattle.std.proofs.Common.{sym, ◌∙◌, ⊎_elim, arith}
use mathlib.Core.List.{List, [], ◌∷◌}
use Rattle.std.proofs.Math.ListN.{length}
use borrow.Author.Tests.{eq-eqb, ne_eqb, eqb-true}
use Rattle.answers.specs.declared.Refusal.{Refusal}
use Rattle.answers.specs.Number.{number_of}
use Rattle.segment.specs.declared.Segment.{Segment}
use Rattle.segment.specs.Form.{start_of}
use Rattle.segment_search.specs.TriesLaws.{by_test}
use Rattle.segments.specs.declared.table.VirtualMemoryManager.{VirtualMemoryManager}
use Rattle.segments.specs.Calls.{segment, new_call, reserve_call, mark_call, release_call, split_call}
use Rattle.segments.specs.CallWayLaws.{release_ways}
use Rattle.segments.specs.RefusedLaws.{reserve_refused, mark_refused, release_refused, split_refused}
use Rattle.segments_lent.specs.LentWords.{manager_of, words_of}
use Rattle.segments_lent.specs.LentWordsLaws.{words_manager}
use Rattle.segments_lent.specs.LentCalls.{Left, left, new_left, new_lent, reserve_lent, mark_lent, release_lent, split_lent}
use Rattle.segments_c.specs.LentManager.{Lent, lent, zeros, of_lengths, answered_as, reserved_as, released_as, split_as, new_on, mark_on, reserve_on, release_on, split_on}

-- ---- the lengths

pub other_words_out : (w out : List ℕ) (r : Lent) → (length w ≡ 131 → ⊥) → lent 1 w out ≡ of_lengths w out r
other_words_out w out r h = rw (ne_eqb (length w) 131 h)

pub other_out : (w out : List ℕ) (r : Lent) → length w ≡ 131 → (length out ≡ 4 → ⊥) → lent 1 w out ≡ of_lengths w out r
other_out w out r e h = rw (eq-eqb (length w) 131 e, ne_eqb (length out) 4 h)

-- four stores into four words
pub four : (w : List ℕ) (a b c d : ℕ) → length w ≡ 4 → set (set (set (set w 0 a) 1 b) 2 c) 3 d ≡ a ∷ b ∷ c ∷ d ∷ []
four [] a b c d h = absurd (omega arith)
four (x ∷ []) a b c d h = absurd (omega arith)
four (x ∷ y ∷ []) a b c d h = absurd (omega arith)
four (x ∷ y ∷ z ∷ []) a b c d h = absurd (omega arith)
four (x ∷ y ∷ z ∷ u ∷ []) a b c d h = refl
four (x ∷ y ∷ z ∷ u ∷ v ∷ w) a b c d h = absurd (omega arith)

-- ---- an answer and the words that are left, as the exported call gives them

abbrev pub answered_out : Result ⊤ Refusal → List ℕ → Lent
answered_out (Ok tt) v = lent 0 v []
answered_out (Err why) v = lent (number_of why) v []

abbrev pub reserved_out : Result (Segment × ℕ) Refusal → List ℕ → Lent
reserved_out (Ok (s, restarts)) v = lent 0 v (start_of s ∷ restarts ∷ 0 ∷ 0 ∷ [])
reserved_out (Err why) v = lent (number_of why) v zeros

abbrev pub released_out : Result Bool Refusal → List ℕ → Lent
released_out (Ok true) v = lent 0 v (1 ∷ 0 ∷ 0 ∷ 0 ∷ [])
released_out (Ok false) v = lent 0 v zeros
released_out (Err why) v = lent (number_of why) v zeros

abbrev pub split_out : Result (Segment × Segment) Refusal → List ℕ → Lent
split_out (Ok (low, high)) v = lent 0 v (start_of low ∷ low.len ∷ start_of high ∷ high.len ∷ [])
split_out (Err why) v = lent (number_of why) v zeros

-- ---- the calls; v is what the words hold

module _ (w v : List ℕ) (r : Result ⊤ Refusal) where
  pub new_is : (start size : ℕ) → left r v ≡ new_lent w (record { 0 = start }) size → answered_out r v ≡ new_on w start size
  unfolding new_lent new_on
  new_is start size p = ap (λ (x : Left (Result ⊤ Refusal)). answered_out x.answer x.words) p ∙ by_test (eqb (length w) 131) (λ y. rw y (by (new_call (record { 0 = start }) size).answer (new_call (record { 0 = start }) size).manager)) (λ n. rw n)
    where
      by : (a : Result ⊤ Refusal) (m : VirtualMemoryManager) → answered_out (new_left w a m).answer (new_left w a m).words ≡ answered_as w a m
      by (Ok tt) m = refl
      by (Err why) m = refl

  pub mark_is : (start len : ℕ) → left r v ≡ mark_lent w (segment start len) → answered_out r v ≡ mark_on w start len
  unfolding mark_lent mark_on
  mark_is start len p = ap (λ (x : Left (Result ⊤ Refusal)). answered_out x.answer x.words) p ∙ by_test (eqb (length w) 131) (λ y. rw y (by (eqb-true (length w) 131 y) (mark_call (manager_of w) (segment start len)).answer refl)) (λ n. rw n)
    where
      by : length w ≡ 131 → (a : Result ⊤ Refusal) → (mark_call (manager_of w) (segment start len)).answer ≡ a
          → answered_out a (words_of (mark_call (manager_of w) (segment start len)).manager) ≡ answered_as w a (mark_call (manager_of w) (segment start len)).manager
      by l (Ok tt) e = refl
      by l (Err why) e = ap (λ (x : List ℕ). lent (number_of why) x []) (ap words_of (mark_refused (manager_of w) why (segment start len) e) ∙ words_manager w l)

module _ (w v out : List ℕ) (l : length w ≡ 131) (f : length out ≡ 4) where
  pub reserve_is : (len : ℕ) (r : Result (Segment × ℕ) Refusal) → left r v ≡ reserve_lent w len → reserved_out r v ≡ reserve_on w len out
  unfolding reserve_lent reserve_on
  reserve_is len r p = ap (λ (x : Left (Result (Segment × ℕ) Refusal)). reserved_out x.answer x.words) p ∙ rw (eq-eqb (length w) 131 l, eq-eqb (length out) 4 f) (by (reserve_call (manager_of w) len).answer refl)
    where
      by : (a : Result (Segment × ℕ) Refusal) → (reserve_call (manager_of w) len).answer ≡ a
          → reserved_out a (words_of (reserve_call (manager_of w) len).manager) ≡ reserved_as w a (reserve_call (manager_of w) len).manager
      by (Ok (s, n)) e = refl
      by (Err why) e = ap (λ (x : List ℕ). lent (number_of why) x zeros) (ap words_of (reserve_refused (manager_of w) why len e) ∙ words_manager w l)

  pub release_is : (start len : ℕ) (r : Result Bool Refusal) → left r v ≡ release_lent w (segment start len) → released_out r v ≡ release_on w start len out
  unfolding release_lent release_on
  release_is start len r p = ap (λ (x : Left (Result Bool Refusal)). released_out x.answer x.words) p ∙ rw (eq-eqb (length w) 131 l, eq-eqb (length out) 4 f) (by (release_call (manager_of w) s).answer refl)
    where
      s : Segment
      s = segment start len

      -- a segment that is not held changes nothing
      same : (release_call (manager_of w) s).answer ≡ Ok false → (release_call (manager_of w) s).manager ≡ manager_of w
      same e = ⊎_elim (λ x. ap (λ a. a.manager) x.1) (⊎_elim (λ x. ap (λ a. a.manager) x) (λ x. absurd (mathlib.Core.Bool.true≢false (ok_same (sym (ap (λ a. a.answer) x.is) ∙ e))))) (release_ways (manager_of w) s)

      by : (a : Result Bool Refusal) → (release_call (manager_of w) s).answer ≡ a
          → released_out a (words_of (release_call (manager_of w) s).manager) ≡ released_as w a (release_call (manager_of w) s).manager
      by (Ok true) e = refl
      by (Ok false) e = ap (λ (x : List ℕ). lent 0 x zeros) (ap words_of (same e) ∙ words_manager w l)
      by (Err why) e = ap (λ (x : List ℕ). lent (number_of why) x zeros) (ap words_of (release_refused (manager_of w) why s e) ∙ words_manager w l)

  pub split_is : (start len at : ℕ) (r : Result (Segment × Segment) Refusal) → left r v ≡ split_lent w (segment start len) (record { 0 = at }) → split_out r v ≡ split_on w start len at out
  unfolding split_lent split_on
  split_is start len at r p = ap (λ (x : Left (Result (Segment × Segment) Refusal)). split_out x.answer x.words) p ∙ rw (eq-eqb (length w) 131 l, eq-eqb (length out) 4 f) (by (split_call (manager_of w) (segment start len) (record { 0 = at })).answer refl)
    where
      by : (a : Result (Segment × Segment) Refusal) → (split_call (manager_of w) (segment start len) (record { 0 = at })).answer ≡ a
          → split_out a (words_of (split_call (manager_of w) (segment start len) (record { 0 = at })).manager) ≡ split_as w a (split_call (manager_of w) (segment start len) (record { 0 = at })).manager
      by (Ok (low, high)) e = refl
      by (Err why) e = ap (λ (x : List ℕ). lent (number_of why) x zeros) (ap words_of (split_refused (manager_of w) why (segment start len) (record { 0 = at }) e) ∙ words_manager w l)

-- ---- the cases

module _ (v out : List ℕ) where
  pub answered_done : (x : Result ⊤ Refusal) → x ≡ Ok tt → lent 0 v [] ≡ answered_out x v
  answered_done x e = rw e

  pub answered_refused : (x : Result ⊤ Refusal) (why : Refusal) (n : ℕ) → x ≡ Err why → n ≡ number_of why → lent n v [] ≡ answered_out x v
  answered_refused x why n e p = rw (e, p)

  pub reserved_at : (x : Result (Segment × ℕ) Refusal) (s : Segment) (n : ℕ) → x ≡ Ok (s, n) → out ≡ start_of s ∷ n ∷ 0 ∷ 0 ∷ [] → lent 0 v out ≡ reserved_out x v
  reserved_at x s n e q = rw (e, q)

  pub reserved_refused : (x : Result (Segment × ℕ) Refusal) (why : Refusal) (n : ℕ) → x ≡ Err why → n ≡ number_of why → out ≡ zeros → lent n v out ≡ reserved_out x v
  reserved_refused x why n e p q = rw (e, p, q)

  pub released_yes : (x : Result Bool Refusal) → x ≡ Ok true → out ≡ 1 ∷ 0 ∷ 0 ∷ 0 ∷ [] → lent 0 v out ≡ released_out x v
  released_yes x e q = rw (e, q)

  pub released_no : (x : Result Bool Refusal) → x ≡ Ok false → out ≡ zeros → lent 0 v out ≡ released_out x v
  released_no x e q = rw (e, q)

  pub released_at : (x : Result Bool Refusal) (b : Bool) (n : ℕ) → x ≡ Ok b → (b ≡ true → n ≡ 1) → (b ≡ false → n ≡ 0) → out ≡ n ∷ 0 ∷ 0 ∷ 0 ∷ [] → lent 0 v out ≡ released_out x v
  released_at x true n e one none q = released_yes x e (q ∙ ap (λ (k : ℕ). k ∷ 0 ∷ 0 ∷ 0 ∷ []) (one refl))
  released_at x false n e one none q = released_no x e (q ∙ ap (λ (k : ℕ). k ∷ 0 ∷ 0 ∷ 0 ∷ []) (none refl))

  pub released_refused : (x : Result Bool Refusal) (why : Refusal) (n : ℕ) → x ≡ Err why → n ≡ number_of why → out ≡ zeros → lent n v out ≡ released_out x v
  released_refused x why n e p q = rw (e, p, q)

  pub split_parts : (x : Result (Segment × Segment) Refusal) (a b : Segment) → x ≡ Ok (a, b) → out ≡ start_of a ∷ a.len ∷ start_of b ∷ b.len ∷ [] → lent 0 v out ≡ split_out x v
  split_parts x a b e q = rw (e, q)

  pub split_no : (x : Result (Segment × Segment) Refusal) (why : Refusal) (n : ℕ) → x ≡ Err why → n ≡ number_of why → out ≡ zeros → lent n v out ≡ split_out x v
  split_no x why n e p q = rw (e, p, q)
