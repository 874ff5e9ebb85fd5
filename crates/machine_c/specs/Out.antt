-- What an exported call returns and writes: number and values (RULES O1); where `out` is of another length, 1 and nothing written.
use Rattle.std.specs.Prelude.{◌≡◌, List, ℕ, length, Result, ⊤}
use Rattle.answers.specs.declared.Refusal.{Refusal}
use Rattle.model.specs.Machine.{State}
use Rattle.model.specs.Answers.{After, Reply, of_done}
use Rattle.process.specs.Start.{Starts}
use Rattle.calls.specs.Answered.{Leaves}

pub record Told (reply : Reply) (n r : ℕ) (out out' : List ℕ) : Type 0 where
  pub told : length out ≡ n → (r ≡ reply.number) × (out' ≡ reply.values)
  pub kept : (length out ≡ n → ⊥) → (r ≡ 1) × (out' ≡ out)

-- and what it leaves of the machine
pub record LeavesOut {A : Type 0} (call : State → After A) (n : ℕ) (out words frames files words' frames' : List ℕ) : Type 0 where
  pub machine : length out ≡ n → Leaves call words frames files words' frames'
  pub other : (length out ≡ n → ⊥) → (words' ≡ words) × (frames' ≡ frames)

-- what start answers as a number, and leaves
pub record StartTold (words frames bytes rows words' : List ℕ) (r : ℕ) : Type 0 where
  pub answer : Result ⊤ Refusal
  pub number : r ≡ (of_done answer).number
  pub starts : Starts words frames bytes rows words' answer
