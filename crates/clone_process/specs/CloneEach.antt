-- One region of a process that is cloned.
use Rattle.std.specs.Prelude.{Bool, cond, ℕ, eqb}
use Rattle.model.specs.declared.Region.{Region}
use Rattle.model.specs.Machine.{State, region_at}
use Rattle.model.specs.Answers.{Try, fine}
use Rattle.model.specs.Clone.{core_clone_region}

-- cloning a process skips per-thread regions (RULES K4)
abbrev pub is_cloned : Region → Bool
is_cloned r = eqb r.per_thread 0

unfoldable pub clone_slot : State → ℕ → ℕ → ℕ → Try
clone_slot s p t q = cond (is_cloned (region_at s.machine p t)) (core_clone_region s p t q) (fine s)
