-- The holders of each frame, counted.
use Rattle.std.specs.Prelude.{◌≡◌, Bool, not, ◌&&◌, ◌||◌, List, ℕ, ◌<◌, ◌≤◌, get_or, length, eqb, leb}
use Rattle.model.specs.declared.Backing.{Backing}
use Rattle.model.specs.Machine.{Machine}
use Rattle.laws.specs.Tests.{all_rows}
use Rattle.model.specs.Sound.{holders_of}
use Rattle.model.specs.Layout.{machine}
use Rattle.laws.specs.Loops.{Counted}
use Rattle.sound_frames.specs.Held.{held_rows, at}

-- a count for each frame
abbrev pub Tallied : Machine → List ℕ → Type 0
Tallied m counts = (f : ℕ) → f < 256 → get_or counts f 0 ≡ holders_of m f

-- a row without a backing has no holders
abbrev pub unheld : Backing → Bool
unheld b = not (eqb b.len 0) || eqb b.holders 0

abbrev pub free_unheld : Machine → Bool
free_unheld m = all_rows (λ f b. unheld b) 0 m.backings

-- a backing has so many holders, at least one
abbrev pub held_times : ℕ → Backing → Bool
held_times n b = (eqb b.len 0 || (eqb b.holders n && leb 1 b.holders)) && unheld b

-- of k holders, a count for each mark
pub record Counts (w : List ℕ) (counts : List ℕ) (k : ℕ) : Type 0 where
  pub low : k ≤ 1024
  pub sized : length counts ≡ 256
  pub each : (f : ℕ) → f < 256 → Counted (at f) (held_rows (machine w)) 1024 k (get_or counts f 0)
