-- Opening a process, way by way.
use Rattle.std.specs.Prelude.{Bool, ◌||◌, not, ℕ, ◌+◌, ltb}
use Rattle.address.specs.Pages.{aligned}
use Rattle.model.specs.Machine.{user_end}

-- ---- the arena

abbrev pub bad_arena : ℕ → ℕ → Bool
bad_arena a size = not (aligned a) || (not (aligned size) || ltb user_end (a + size))
