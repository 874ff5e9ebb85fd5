-- The walk over the regions that are taken out (RULES V3).
use Rattle.std.specs.Prelude.{◌≡◌, List, ℕ, ◌%◌}
use Rattle.model.specs.Machine.{Machine}
use Rattle.keeping.specs.Owing.{nothing}
use Rattle.keeping.specs.CarveKept.{Passes}

-- nothing beside the rules: what carve alone asks of each split
abbrev pub Anything : Machine → Type 0
Anything m = Unit {0}

-- bounds of pages, and a machine that is sound once the slots that are out are listed
pub record Ready (p a e : ℕ) (m : Machine) (out : List ℕ) : Type 0 where
  pub low : a % 4096 ≡ 0
  pub high : e % 4096 ≡ 0
  pub passes : Passes nothing Anything p m out
