-- A machine whose pool is right for its backings.
use Rattle.std.specs.Prelude.{◌≡◌, ◌≤◌, length}
use Rattle.model.specs.Machine.{Machine}
use Rattle.model.specs.Sound.{R2}

-- a machine whose pool is right
pub record Ready (m : Machine) : Type 0 where
  pub r2 : R2 m
  pub rows : length m.backings ≡ 256
  pub few : m.frame_count ≤ 256
