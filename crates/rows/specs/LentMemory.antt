-- Lent memory as a state, and what a call's core does to it: the machine's words, the frames' bytes, the files' bytes.
use Rattle.std.specs.Prelude.{◌≡◌, true, List, [], ℕ}
use Rattle.model.specs.Machine.{State}
use Rattle.model.specs.Layout.{machine}
use Rattle.model.specs.Answers.{After, leaving}
use Rattle.model.specs.SoundTest.{soundb}

abbrev pub state_of : List ℕ → List ℕ → List ℕ → State
state_of words frames files = record { machine = machine words; frames = frames; bytes = files }

-- for what looks at the tables alone
abbrev pub words_alone : List ℕ → State
words_alone words = state_of words [] []

-- words that are a sound machine with some frames and files: what a core is called on
pub record SoundWords (words : List ℕ) : Type 0 where
  pub frames : List ℕ
  pub files : List ℕ
  pub sound : soundb (state_of words frames files) ≡ true

-- the same with the frames that are lent
pub record SoundFrames (words frames : List ℕ) : Type 0 where
  pub files : List ℕ
  pub sound : soundb (state_of words frames files) ≡ true

-- what a core that only looks answers: on a sound machine, as the call
abbrev pub OnSound : {A : Type 0} → (State → After A) → List ℕ → A → Type 0
OnSound call words r = (frames files : List ℕ) → soundb (state_of words frames files) ≡ true → r ≡ (call (state_of words frames files)).answer

-- the same with the frames at hand
abbrev pub OnFrames : {A : Type 0} → (State → After A) → (words frames : List ℕ) → A → Type 0
OnFrames call words frames r = (files : List ℕ) → soundb (state_of words frames files) ≡ true → r ≡ (call (state_of words frames files)).answer

-- what a core answers and leaves: on a sound machine, as the call
abbrev pub Does : {A : Type 0} → (State → After A) → (words frames words' frames' : List ℕ) → A → Type 0
Does call words frames words' frames' r = (files : List ℕ) → soundb (state_of words frames files) ≡ true → call (state_of words frames files) ≡ leaving r (state_of words' frames' files)

-- the same of a core that has no frames at hand
abbrev pub DoesWords : {A : Type 0} → (State → After A) → (words words' : List ℕ) → A → Type 0
DoesWords call words words' r = (frames : List ℕ) → Does call words frames words' frames r

-- the same of a core that reads the files' bytes: on the files that are lent
abbrev pub DoesWith : {A : Type 0} → (State → After A) → (words frames files words' frames' : List ℕ) → A → Type 0
DoesWith call words frames files words' frames' r = call (state_of words frames files) ≡ leaving r (state_of words' frames' files)
