-- Laws of `Loads`: the sum of loaded bytes, on any lent memory.
use Rattle.std.specs.Prelude.{◌≡◌, ℕ, suc, ◌+◌, ◌%◌, ◌^◌, true, false, List, Result, Err}
use Rattle.std.proofs.Math.Path.{ap}
use Rattle.std.proofs.Common.{◌∙◌, arith}
use Rattle.answers.specs.declared.Refusal.{Refusal}
use Rattle.model.specs.Calls.{load}
use Rattle.rows.specs.LentMemory.{OnFrames}
use Rattle.soundness.specs.SoundLent.{sound_lent}
use Rattle.calls.specs.Answered.{answer_on}
use Rattle.calls.specs.AnsweredLaws.{looked_at}
use Rattle.bench_c.specs.Loads.{byte_or0, sum_of, byte_at, loads_on}

pub one_more : (f : ℕ → ℕ) (n s b r : ℕ) → s ≡ sum_of f n → b ≡ f n → r ≡ (s + b) % 2 ^ 64 → r ≡ sum_of f (n + 1)
unfolding sum_of
one_more f n s b r p q e =
    let next : suc n ≡ n + 1 = omega arith in
    e ∙ ap (λ x. (x + b) % 2 ^ 64) p ∙ ap (λ x. (sum_of f n + x) % 2 ^ 64) q ∙ ap (sum_of f) next

module _ (words frames files : List ℕ) (process addr times : ℕ) where
  pub no_machine : sound_lent words frames files ≡ false → 0 ≡ loads_on words frames files process addr times
  unfolding loads_on
  no_machine e = rw e

  pub loaded : sound_lent words frames files ≡ true → (s i : ℕ) → i ≡ times → s ≡ sum_of (byte_at words frames files process addr) i → s ≡ loads_on words frames files process addr times
  unfolding loads_on
  loaded e s i p q = rw e (q ∙ ap (sum_of (byte_at words frames files process addr)) p)

  -- what the core loads is what the call answers
  pub byte_at_is : sound_lent words frames files ≡ true → (i at b : ℕ) (x : Result ℕ Refusal) → at ≡ (addr + i) % 2 ^ 64 → OnFrames (λ s. load s process at) words frames x → b ≡ byte_or0 x → b ≡ byte_at words frames files process addr i
  byte_at_is told i at b x p on q = q ∙ ap byte_or0 (looked_at words frames files told Err (λ s. load s process at) x on) ∙ ap (λ y. byte_or0 (answer_on Err (λ s. load s process y) words frames files)) p
