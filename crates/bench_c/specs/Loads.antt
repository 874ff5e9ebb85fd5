-- The sum of loaded bytes, on any lent memory.
use Rattle.std.specs.Prelude.{ℕ, zero, suc, ◌+◌, ◌%◌, ◌^◌, cond, List, Result, Ok, Err}
use Rattle.answers.specs.declared.Refusal.{Refusal}
use Rattle.model.specs.Calls.{load}
use Rattle.soundness.specs.SoundLent.{sound_lent}
use Rattle.calls.specs.Answered.{answer_on}

abbrev pub byte_or0 : Result ℕ Refusal → ℕ
byte_or0 (Ok b) = b
byte_or0 (Err r) = 0

-- of the first n, in 64 bits
unfoldable pub sum_of : (ℕ → ℕ) → ℕ → ℕ
sum_of f zero = 0
sum_of f (suc n) = (sum_of f n + f n) % 2 ^ 64

-- what the call answers at the i-th address from one on
abbrev pub byte_at : (words frames files : List ℕ) → ℕ → ℕ → ℕ → ℕ
byte_at words frames files process addr i = byte_or0 (answer_on Err (λ s. load s process ((addr + i) % 2 ^ 64)) words frames files)

unfoldable pub loads_on : (words frames files : List ℕ) → ℕ → ℕ → ℕ → ℕ
loads_on words frames files process addr times = cond (sound_lent words frames files) (sum_of (byte_at words frames files process addr) times) 0
