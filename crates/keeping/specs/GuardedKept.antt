-- A call keeps the machine sound where its core does: refusals change nothing.
use Rattle.std.specs.Prelude.{◌≡◌, refl, Bool, true, false, not, cond, List, [], ◌∷◌, Result, Ok, Err, ⊤}
use Rattle.laws.specs.ResultLaws.{err_not_ok}
use Rattle.answers.specs.declared.Refusal.{Refusal}
use Rattle.answers.specs.declared.Refusal.TheVariants.{BadTable}
use Rattle.model.specs.Machine.{State}
use Rattle.model.specs.Answers.{After, first_of}
use Rattle.model.specs.Calls.{decided, guarded}
use Rattle.model.specs.Sound.{Sound}
use Rattle.model.specs.SoundTest.{soundb}

-- every test of a list is false
abbrev pub Passed : List (Bool × Refusal) → Type 0
Passed [] = Unit {0}
Passed (t ∷ l) = (t.0 ≡ false) × Passed l

-- no refusal: every test is false
pub passed : (l : List (Bool × Refusal)) → first_of l ≡ Ok tt → Passed l
unfolding first_of
passed [] e = tt
passed (t ∷ l) e = go t.0 refl e (passed l)
  where
    go : (b : Bool) → t.0 ≡ b → cond b (Err t.1) (first_of l) ≡ Ok tt → (first_of l ≡ Ok tt → Passed l) → (t.0 ≡ false) × Passed l
    go true p q more = absurd (err_not_ok q)
    go false p q more = (p, more q)

-- the core may take it that no test refuses
pub guarded_kept : {A : Type 0} (s : State) (refusal : Refusal → A) (tests : List (Bool × Refusal)) (t : After A) → Sound s → (Passed tests → Sound t.state)
    → Sound (guarded s refusal tests t).state
unfolding guarded
guarded_kept s refusal tests t sound core = go (first_of ((not (soundb s), BadTable) ∷ tests)) refl
  where
    go : (d : Result ⊤ Refusal) → first_of ((not (soundb s), BadTable) ∷ tests) ≡ d → Sound (decided d refusal s t).state
    go (Ok tt) e = core (passed ((not (soundb s), BadTable) ∷ tests) e).1
    go (Err r) e = sound
