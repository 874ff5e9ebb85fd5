-- What the core of carve needs, and what it leaves and answers (RULES V1 to V4).
use Rattle.std.specs.Prelude.{◌≡◌, List, ℕ, ◌%◌, ◌<◌}
use Rattle.model.specs.declared.Listed.{Listed}
use Rattle.model.specs.Machine.{Machine, process_at}
use Rattle.model.specs.Layout.{machine}
use Rattle.model.specs.Carve.{carve_splits, carve_answer}
use Rattle.rows.specs.LentMemory.{SoundWords}

-- an open process of a sound machine, and bounds of pages
pub record Carvable (w : List ℕ) (p a e : ℕ) : Type 0 where
  pub small : p < 8
  pub low : a % 4096 ≡ 0
  pub high : e % 4096 ≡ 0
  pub sound : SoundWords w
  pub opened : (process_at (machine w) p).opened ≡ 1

-- the machine and the answer are the model's
abbrev pub Carved : Machine → ℕ → ℕ → ℕ → Machine → Listed → Type 0
Carved m p a e n r = (n ≡ (carve_splits m p a e).0) × (r ≡ carve_answer n p a e (carve_splits m p a e).1)
