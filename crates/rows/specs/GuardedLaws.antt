-- A call on a machine that the soundness test passes or refuses: which of its refusals, or its core.
use Rattle.std.specs.Prelude.{◌≡◌, Bool, true, false, not, cond, List, Result, Ok, Err, ⊤}
use Rattle.std.proofs.Math.Path.{ap}
use Rattle.std.proofs.Common.{sym, ◌∙◌}
use Rattle.answers.specs.declared.Refusal.{Refusal}
use Rattle.answers.specs.declared.Refusal.TheVariants.{BadTable}
use Rattle.model.specs.Machine.{State}
use Rattle.model.specs.Answers.{After, leaving, first_of}
use Rattle.model.specs.Calls.{decided, guarded}
use Rattle.model.specs.SoundTest.{soundb}

module _ {A : Type 0} (s : State) (refusal : Refusal → A) (tests : List (Bool × Refusal)) (t : After A) where
  guarded_first : (b : Bool) → soundb s ≡ b → guarded s refusal tests t ≡ decided (cond (not b) (Err BadTable) (first_of tests)) refusal s t
  unfolding guarded first_of
  guarded_first b e = ap (λ (x : Bool). decided (cond (not x) (Err BadTable) (first_of tests)) refusal s t) e

  -- the lent machine breaks R1 to R6 (RULES E1)
  pub unsound : soundb s ≡ false → guarded s refusal tests t ≡ leaving (refusal BadTable) s
  unsound e = guarded_first false e

  -- the first test that is true refuses
  pub refused : soundb s ≡ true → (r : Refusal) → Err r ≡ first_of tests → guarded s refusal tests t ≡ leaving (refusal r) s
  refused e r f = guarded_first true e ∙ ap (λ (d : Result ⊤ Refusal). decided d refusal s t) (sym f)

  -- none is
  pub granted : soundb s ≡ true → Ok tt ≡ first_of tests → guarded s refusal tests t ≡ t
  granted e f = guarded_first true e ∙ ap (λ (d : Result ⊤ Refusal). decided d refusal s t) (sym f)
