-- The choice of a fault's way, case by case (RULES T3 to T9).
use Rattle.std.specs.Prelude.{Bool, not, ◌&&◌, ◌||◌, cond, ℕ, eqb, Option}
use Rattle.model.specs.declared.Mapping.{Mapping}
use Rattle.address.specs.declared.PhysFrame.{PhysFrame}
use Rattle.model.specs.declared.Region.{Region}
use Rattle.model.specs.declared.Way.{Way}
use Rattle.model.specs.declared.Way.TheVariants.{Restore, Copy}
use Rattle.model.specs.Paging.{is_user, is_writable, well_mapped}

-- a write where the region may be written: the only holder goes on, another gets a copy
abbrev pub copied_way : PhysFrame → ℕ → Way
copied_way f n = cond (eqb n 1) Restore (Copy f)

-- the way of a private page hangs on what backs it: the region grants the access, and the page is not mapped well enough
abbrev pub asks_backing : Region → Option Mapping → Bool → Bool
asks_backing r t w = is_user r.flags.0 && (not (well_mapped t w) && (not w || is_writable r.flags.0))
