-- A call by its number and arguments, as words: which call it is, and what it answers and leaves (RULES E1, O1).
use Rattle.std.specs.Prelude.{◌≡◌, List, ◌∷◌, ◌⊎◌, ℕ, length, replicate, Some, None}
use Rattle.laws.specs.Lists.{pad}
use Rattle.model.specs.declared.Call.{Call}
use Rattle.model.specs.Meant.{meant}
use Rattle.model.specs.Run.{call}
use Rattle.call_rows.specs.Asked.{call_in}
use Rattle.calls.specs.Answered.{Leaves}
use Rattle.calls.specs.Ran.{reply_on}
use Rattle.machine_c.specs.Out.{StartTold}

pub record CallTold (asked words frames files out words' frames' out' : List ℕ) (r : ℕ) : Type 0 where
  -- a call: number and values as its own function gives them, then zeros
  pub told : length out ≡ 65 → (c : Call) → call_in asked ≡ Some c
      → (r ≡ (reply_on c words frames files).number) × ((out' ≡ pad 65 0 (reply_on c words frames files).values) × Leaves (λ s. call (meant c) s) words frames files words' frames')
  -- start: number 0, then the files' rows
  pub starts : length out ≡ 65 → (rows : List ℕ) → asked ≡ 0 ∷ rows → StartTold words frames files rows words' r × ((frames' ≡ frames) × (out' ≡ replicate 65 0))
  -- words that are no call, or another length of `out`: 1, and everything as it was
  pub none : (length out ≡ 65 → ⊥) ⊎ ((call_in asked ≡ None) × ((rows : List ℕ) → asked ≡ 0 ∷ rows → ⊥)) → (r ≡ 1) × ((words' ≡ words) × ((frames' ≡ frames) × (out' ≡ out)))
