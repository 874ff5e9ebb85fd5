-- A walk over pages, step by step: what is left of it gives what the whole gives (RULES U1).
use Rattle.std.specs.Prelude.{◌≡◌, Bool, true, ℕ, ◌<◌, Ok}
use Rattle.model.specs.Machine.{State}
use Rattle.model.specs.Answers.{Try, leaving, and_then}
use Rattle.model.specs.Populate.{visit}
use Rattle.model.specs.SoundTest.{soundb}
use Rattle.populate_visit.specs.declared.Visit.{Visit}

-- what is left of a walk
abbrev pub resume : ℕ → ℕ → Bool → Visit → State → Try
resume p last w v s = and_then (leaving v.done s) (λ t. visit v.left t p v.page.0 last w)

-- a step: what is left gives the same, the machine stays sound, and a walk that has ended has no steps left
pub record Stepped (p last : ℕ) (w : Bool) (at : Visit) (s : State) (r : Visit) (t : State) : Type 0 where
  pub same : resume p last w r t ≡ resume p last w at s
  pub sound : soundb t ≡ true
  pub fewer : r.left < at.left
  pub goes : 0 < r.left → r.done ≡ Ok tt
