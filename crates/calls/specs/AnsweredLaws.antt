-- From the soundness test and a core to a call on any lent memory.
use Rattle.std.specs.Prelude.{◌≡◌, ℕ, Bool, true, false, cond, ◌&&◌, List, [], length, ◌==◌, Ok, Err, Result, ⊤}
use Rattle.std.proofs.Math.Path.{refl, sym}
use Rattle.std.proofs.Common.{ap, ◌∙◌, subst, eqb-true, eq-eqb}
use Rattle.std.proofs.lemmas.Bool.{false≢true}
use Rattle.laws.specs.BoolLaws.{both_true}
use Rattle.laws.specs.ResultLaws.{ok_not_err, err_same}
use Rattle.answers.specs.declared.Refusal.{Refusal}
use Rattle.answers.specs.declared.Refusal.TheVariants.{BadTable}
use Rattle.model.specs.Machine.{State}
use Rattle.model.specs.Layout.{word_count}
use Rattle.model.specs.Answers.{After, leaving}
use Rattle.model.specs.SoundTest.{soundb}
use Rattle.model.specs.Calls.{sound}
use Rattle.rows.specs.GuardedLaws.{granted}
use Rattle.lookup.specs.FirstOfLaws.{first_none}
use Rattle.rows.specs.LentMemory.{state_of, SoundWords, SoundFrames, OnSound, OnFrames, Does, DoesWith}
use Rattle.soundness.specs.SoundLent.{sound_lent}
use Rattle.calls.specs.Answered.{answer_on, Leaves}

module _ (w f b : List ℕ) (told : sound_lent w f b ≡ true) where
  both : ((length w == word_count) ≡ true) × (soundb (state_of w f b) ≡ true)
  unfolding sound_lent
  both = both_true (length w == word_count) (soundb (state_of w f b)) told

  pub sound_length : length w ≡ word_count
  sound_length = eqb-true (length w) word_count both.0

  pub sound_state : soundb (state_of w f b) ≡ true
  sound_state = both.1

  pub sound_words : SoundWords w
  sound_words = record { frames = f; files = b; sound = both.1 }

  pub sound_frames : SoundFrames w f
  sound_frames = record { files = b; sound = both.1 }

  module _ {A : Type 0} (refusal : Refusal → A) (call : State → After A) (r : A) where
    -- what the core answers is what the call answers
    answered : r ≡ (call (state_of w f b)).answer → r ≡ answer_on refusal call w f b
    unfolding answer_on
    answered e = rw both.0 e

    pub looked : OnSound call w r → r ≡ answer_on refusal call w f b
    looked on = answered (on f b both.1)

    pub looked_at : OnFrames call w f r → r ≡ answer_on refusal call w f b
    looked_at on = answered (on b both.1)

    -- of a core that reads the files
    pub done_with : (w' f' : List ℕ) → DoesWith call w f b w' f' r → (r ≡ answer_on refusal call w f b) × Leaves call w f b w' f'
    done_with w' f' e = (answered (sym (ap (λ x. x.answer) e)), record { machine = λ _. sym (ap (λ x. x.state) e); other = λ n. absurd (n sound_length) })

    pub done : (w' f' : List ℕ) → Does call w f w' f' r → (r ≡ answer_on refusal call w f b) × Leaves call w f b w' f'
    done w' f' does = done_with w' f' (does b both.1)

module _ {A : Type 0} (refusal : Refusal → A) (call : State → After A) (refuses : (s : State) → soundb s ≡ false → call s ≡ leaving (refusal BadTable) s) (w f b : List ℕ) (told : sound_lent w f b ≡ false) where
  unsound_state : length w ≡ word_count → soundb (state_of w f b) ≡ false
  unfolding sound_lent
  unsound_state e = go (length w == word_count) (soundb (state_of w f b)) (eq-eqb (length w) word_count e) told
    where
      go : (x y : Bool) → x ≡ true → (x && y) ≡ false → y ≡ false
      go true y p q = q
      go false y p q = absurd (false≢true p)

  -- the lent machine breaks R1 to R6 (RULES E1), or is none
  pub bad_table : refusal BadTable ≡ answer_on refusal call w f b
  unfolding answer_on
  bad_table = go (length w == word_count) refl
    where
      go : (x : Bool) → (length w == word_count) ≡ x → refusal BadTable ≡ cond x (call (state_of w f b)).answer (refusal BadTable)
      go true e = sym (ap (λ x. x.answer) (refuses (state_of w f b) (unsound_state (eqb-true (length w) word_count e))))
      go false e = refl

  pub refused_whole : (refusal BadTable ≡ answer_on refusal call w f b) × Leaves call w f b w f
  refused_whole = (bad_table, record { machine = λ e. sym (ap (λ x. x.state) (refuses (state_of w f b) (unsound_state e))); other = λ _. (refl, refl) })

-- the test as a call
pub sound_answers : (w : List ℕ) → OnSound sound w (Ok tt)
unfolding sound
sound_answers w f b e = sym (ap (λ x. x.answer) (granted (state_of w f b) Err [] _ e first_none))

-- ---- the test as a refusal

module _ (w f b : List ℕ) {r : Result ⊤ Refusal} (told : r ≡ cond (sound_lent w f b) (Ok tt) (Err BadTable)) where
  tells : (x : Bool) → sound_lent w f b ≡ x → r ≡ cond x (Ok tt) (Err BadTable)
  tells x e = told ∙ ap (λ y. cond y (Ok tt) (Err BadTable)) e

  pub tested : r ≡ Ok tt → sound_lent w f b ≡ true
  tested p = go (sound_lent w f b) refl
    where
      go : (x : Bool) → sound_lent w f b ≡ x → sound_lent w f b ≡ true
      go true e = e
      go false e = absurd (ok_not_err (sym p ∙ tells false e))

  module _ {A : Type 0} (call : State → After (Result A Refusal)) (refuses : (s : State) → soundb s ≡ false → call s ≡ leaving (Err BadTable) s) (e : Refusal) (p : r ≡ Err e) where
    pub untested_whole : (Err e ≡ answer_on Err call w f b) × Leaves call w f b w f
    untested_whole = go (sound_lent w f b) refl
      where
        go : (x : Bool) → sound_lent w f b ≡ x → (Err e ≡ answer_on Err call w f b) × Leaves call w f b w f
        go true q = absurd (ok_not_err (sym (tells true q) ∙ p))
        go false q = subst (λ (d : Refusal). (Err d ≡ answer_on Err call w f b) × Leaves call w f b w f) (err_same (sym (tells false q) ∙ p)) (refused_whole Err call refuses w f b q)

    pub untested : Err e ≡ answer_on Err call w f b
    untested = untested_whole.0
