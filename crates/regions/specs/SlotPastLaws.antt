-- A slot past the last row of the regions holds none.
use Rattle.std.specs.Prelude.{◌≡◌, List, ℕ, ◌+◌, ◌*◌, ◌≤◌}
use Rattle.std.proofs.Math.ListN.{get_or-eq_default}
use Rattle.model.specs.Layout.{machine}
use Rattle.model.specs.Machine.{no_region, region_at}
use Rattle.lookup.specs.LookupsLaws.{regions_length}

pub no_row : (w : List ℕ) (p s : ℕ) → 512 ≤ p * 64 + s → region_at (machine w) p s ≡ no_region
no_row w p s h = get_or-eq_default (machine w).regions no_region {n = p * 64 + s} (rw regions_length h)
