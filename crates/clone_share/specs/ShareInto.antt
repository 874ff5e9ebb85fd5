-- A region's clone that shares: from what the parts leave to the model's share_into (RULES K1, K2).
use Rattle.std.specs.Prelude.{◌≡◌, ◌≢◌, cond, List, ℕ, ◌≤◌, length, Some}
use Rattle.model.specs.declared.Region.{Region}
use Rattle.laws.specs.Lists.{each}
use Rattle.model.specs.Layout.{machine}
use Rattle.model.specs.Machine.{Machine, region_at, row_of}
use Rattle.model.specs.Lookup.{is_ranged, free_slot, free_entries, row_found}
use Rattle.model.specs.Create.{add_region}
use Rattle.model.specs.Clone.{single_pages, shared_row, demote, share_entry, share_range}
use Rattle.rows.specs.LentMemory.{SoundWords}
use Rattle.backing.specs.BackingSteps.{held}

-- ---- the range

unfoldable pub held_range : Machine → Region → Machine
held_range m r = let more = held m r.range.0 in cond (is_ranged r) more m

-- ---- what a clone is made of

abbrev pub shared_into : Machine → ℕ → ℕ → ℕ → Machine
shared_into m p s q =
    each (share_entry (row_of q (row_found (free_slot m q)))) (single_pages m.entries (row_of p s)) (add_region (share_range (region_at m p s) (demote m p s)) q (shared_row (region_at m p s)))

-- a sound machine, a region in a slot, a free slot, and entries enough
pub record Cloneable (w : List ℕ) (p s q f : ℕ) : Type 0 where
  pub sound : SoundWords w
  pub used : (region_at (machine w) p s).kind ≢ 0
  pub slot : free_slot (machine w) q ≡ Some f
  pub left : length (single_pages (machine w).entries (row_of p s)) ≤ free_entries (machine w)
