-- Laws of `LentCalls`: what the manager's own call leaves is what is left in the words, one law for each way.
use Rattle.std.specs.Prelude.{◌≡◌, refl, Bool, true, false, ◌&&◌, List, ℕ, eqb, length, Result, Ok, Err, ⊤}
use Rattle.std.proofs.Math.Path.{ap, sym}
use Rattle.std.proofs.Common.{◌∙◌}
use Rattle.std.proofs.Math.Bool.{cond}
use borrow.Author.Tests.{eq-eqb, ne_eqb, eqb-true}
use Rattle.answers.specs.declared.Refusal.{Refusal}
use Rattle.answers.specs.declared.Refusal.TheVariants.{BadTable, BadAddress}
use Rattle.address.specs.declared.VirtAddr.{VirtAddr}
use Rattle.address.specs.Canonical.{canonical}
use Rattle.segment.specs.declared.Segment.{Segment}
use Rattle.segment.specs.Form.{form_of}
use Rattle.segment_search.specs.TriesLaws.{by_test}
use Rattle.segments.specs.declared.manager.Answered.{Answered}
use Rattle.segments.specs.Table.{soundb, empty}
use Rattle.segments.specs.Calls.{new_call, reserve_call, mark_call, release_call, split_call, checked_by, split_point, point_as}
use Rattle.segments.specs.CallLaws as call
use Rattle.laws.specs.ResultLaws.{err_not_ok, err_same}
use Rattle.segments_lent.specs.LentWords.{manager_of, words_of, lent_sound}
use Rattle.segments_lent.specs.LentWordsLaws.{words_manager, lent_sound_is}
use Rattle.segments_lent.specs.LentCalls.{left, new_lent, reserve_lent, mark_lent, release_lent, split_lent, checked_lent, point_lent}

-- ---- what the manager's call leaves is what is left in the words

module _ (w v : List ℕ) (e : length w ≡ 131) (l : length v ≡ 131) where
  words : {A : Type 0} (r : A) → left r v ≡ left r (words_of (manager_of v))
  words r = ap (λ x. left r x) (sym (words_manager v l))

  pub reserve_left : (len : ℕ) (r : Result (Segment × ℕ) Refusal) → record { answer = r; manager = manager_of v } ≡ reserve_call (manager_of w) len → left r v ≡ reserve_lent w len
  unfolding reserve_lent
  reserve_left len r p = rw (eq-eqb (length w) 131 e) (words r ∙ ap (λ (x : Answered (Segment × ℕ)). left x.answer (words_of x.manager)) p)

  pub mark_left : (s : Segment) (r : Result ⊤ Refusal) → record { answer = r; manager = manager_of v } ≡ mark_call (manager_of w) s → left r v ≡ mark_lent w s
  unfolding mark_lent
  mark_left s r p = rw (eq-eqb (length w) 131 e) (words r ∙ ap (λ (x : Answered ⊤). left x.answer (words_of x.manager)) p)

  pub release_left : (s : Segment) (r : Result Bool Refusal) → record { answer = r; manager = manager_of v } ≡ release_call (manager_of w) s → left r v ≡ release_lent w s
  unfolding release_lent
  release_left s r p = rw (eq-eqb (length w) 131 e) (words r ∙ ap (λ (x : Answered Bool). left x.answer (words_of x.manager)) p)

  pub split_left : (s : Segment) (at : VirtAddr) (r : Result (Segment × Segment) Refusal) → record { answer = r; manager = manager_of v } ≡ split_call (manager_of w) s at → left r v ≡ split_lent w s at
  unfolding split_lent
  split_left s at r p = rw (eq-eqb (length w) 131 e) (words r ∙ ap (λ (x : Answered (Segment × Segment)). left x.answer (words_of x.manager)) p)

-- ---- refused by the first tests

pub reserve_unsound : (w : List ℕ) (len : ℕ) (b : Bool) → b ≡ lent_sound w → b ≡ false → left (Err BadTable) w ≡ reserve_lent w len
unfolding reserve_lent lent_sound
reserve_unsound w len b t f = by_test (eqb (length w) 131) yes (λ n. rw n)
  where
    yes : eqb (length w) 131 ≡ true → left (Err BadTable) w ≡ reserve_lent w len
    yes y = let e = eqb-true (length w) 131 y in reserve_left w w e e len (Err BadTable) (call.reserve_unsound (manager_of w) len (soundb (manager_of w)) refl (sym (ap (λ (x : Bool). x && soundb (manager_of w)) y) ∙ sym t ∙ f))

-- words of the right length are tested as their manager is
module _ (w : List ℕ) (y : eqb (length w) 131 ≡ true) where
  pub checked_is : (s : Segment) → checked_lent w s ≡ checked_by (manager_of w) s
  unfolding checked_lent checked_by lent_sound
  checked_is s = ap (λ (x : Bool). cond (x && soundb (manager_of w)) (form_of s) (Err BadTable)) y

  pub point_as_is : (s : Segment) (at : VirtAddr) → point_lent w s at ≡ split_point (manager_of w) s at
  unfolding point_lent split_point lent_sound
  point_as_is s at = ap (λ (x : Bool). cond (x && soundb (manager_of w)) (cond (canonical at.0) (point_as (form_of s) s at) (Err BadAddress)) (Err BadTable)) y

-- others are refused BadTable
module _ (w : List ℕ) (n : eqb (length w) 131 ≡ false) where
  checked_not : (s : Segment) → checked_lent w s ≡ Err BadTable
  unfolding checked_lent lent_sound
  checked_not s = ap (λ (x : Bool). cond (x && soundb (manager_of w)) (form_of s) (Err BadTable)) n

  point_not : (s : Segment) (at : VirtAddr) → point_lent w s at ≡ Err BadTable
  unfolding point_lent lent_sound
  point_not s at = ap (λ (x : Bool). cond (x && soundb (manager_of w)) (cond (canonical at.0) (point_as (form_of s) s at) (Err BadAddress)) (Err BadTable)) n

module _ (w : List ℕ) (s : Segment) (f : Result ⊤ Refusal) (checked : f ≡ checked_lent w s) where
  module _ (why : Refusal) (stop : f ≡ Err why) where
    other : eqb (length w) 131 ≡ false → why ≡ BadTable
    other n = err_same (sym stop ∙ checked ∙ checked_not w n s)

    pub mark_refused : left (Err why) w ≡ mark_lent w s
    unfolding mark_lent
    mark_refused = by_test (eqb (length w) 131) (λ y. let e = eqb-true (length w) 131 y in mark_left w w e e s (Err why) (call.marked_refused (manager_of w) s f (checked ∙ checked_is w y s) why stop)) (λ n. rw n (ap (λ (x : Refusal). left (Err x) w) (other n)))

    pub release_refused : left (Err why) w ≡ release_lent w s
    unfolding release_lent
    release_refused = by_test (eqb (length w) 131) (λ y. let e = eqb-true (length w) 131 y in release_left w w e e s (Err why) (call.released_refused (manager_of w) s f (checked ∙ checked_is w y s) why stop)) (λ n. rw n (ap (λ (x : Refusal). left (Err x) w) (other n)))

  module _ (done : f ≡ Ok tt) where
    right : eqb (length w) 131 ≡ true
    right = by_test (eqb (length w) 131) (λ y. y) (λ n. absurd (err_not_ok (sym (sym done ∙ checked ∙ checked_not w n s))))

    pub checked_length : length w ≡ 131
    checked_length = eqb-true (length w) 131 right

    pub checked_by_is : f ≡ checked_by (manager_of w) s
    checked_by_is = checked ∙ checked_is w right s

module _ (w : List ℕ) (s : Segment) (at : VirtAddr) (f : Result ⊤ Refusal) (point : f ≡ point_lent w s at) where
  pub split_refused : (why : Refusal) → f ≡ Err why → left (Err why) w ≡ split_lent w s at
  unfolding split_lent
  split_refused why stop = by_test (eqb (length w) 131) (λ y. let e = eqb-true (length w) 131 y in split_left w w e e s at (Err why) (call.split_refused (manager_of w) s at f (point ∙ point_as_is w y s at) why stop)) (λ n. rw n (ap (λ (x : Refusal). left (Err x) w) (err_same (sym stop ∙ point ∙ point_not w n s at))))

  module _ (done : f ≡ Ok tt) where
    whole : eqb (length w) 131 ≡ true
    whole = by_test (eqb (length w) 131) (λ y. y) (λ n. absurd (err_not_ok (sym (sym done ∙ point ∙ point_not w n s at))))

    pub point_length : length w ≡ 131
    point_length = eqb-true (length w) 131 whole

    pub point_by : f ≡ split_point (manager_of w) s at
    point_by = point ∙ point_as_is w whole s at

-- ---- a new manager

module _ (w : List ℕ) (start : VirtAddr) (size : ℕ) where
  pub new_other : (length w ≡ 131 → ⊥) → left (Err BadTable) w ≡ new_lent w start size
  unfolding new_lent
  new_other n = rw (ne_eqb (length w) 131 n)

  module _ (e : length w ≡ 131) (f : Result ⊤ Refusal) (form : f ≡ form_of (record { start = start; len = size })) where
    pub new_refused : (why : Refusal) → f ≡ Err why → left (Err why) w ≡ new_lent w start size
    unfolding new_lent new_call
    new_refused why p = rw (eq-eqb (length w) 131 e, sym form, p)

    pub new_done : f ≡ Ok tt → (v : List ℕ) → v ≡ words_of (empty start size) → left (Ok tt) v ≡ new_lent w start size
    unfolding new_lent new_call
    new_done p v q = rw (eq-eqb (length w) 131 e, sym form, p, q)

-- ---- the first tests, one law for each way

module _ (w : List ℕ) (s : Segment) (b : Bool) (test : b ≡ lent_sound w) where
  pub checked_unsound : b ≡ false → Err BadTable ≡ checked_lent w s
  unfolding checked_lent
  checked_unsound e = rw (sym test, e)

  pub checked_form : b ≡ true → (f : Result ⊤ Refusal) → f ≡ form_of s → f ≡ checked_lent w s
  unfolding checked_lent
  checked_form e f p = p ∙ sym (ap (λ (x : Bool). cond x (form_of s) (Err BadTable)) (sym test ∙ e))

module _ (w : List ℕ) (s : Segment) (at : VirtAddr) (b : Bool) (test : b ≡ lent_sound w) where
  pub point_unsound : b ≡ false → Err BadTable ≡ point_lent w s at
  unfolding point_lent
  point_unsound e = rw (sym test, e)

  -- a sound table is tested on as the manager's own
  pub point_sound : b ≡ true → (f : Result ⊤ Refusal) → f ≡ split_point (manager_of w) s at → f ≡ point_lent w s at
  point_sound e f p = let l = (lent_sound_is w (sym test ∙ e)).0 in p ∙ sym (point_as_is w (eq-eqb (length w) 131 l) s at)
