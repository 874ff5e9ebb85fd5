-- A page's own frame: what it asks of the machine, and what it leaves (RULES T10).
use Rattle.std.specs.Prelude.{◌≡◌, false, List, ℕ, ◌<◌, length}
use Rattle.model.specs.Layout.{machine}
use Rattle.model.specs.Machine.{Machine, process_at, region_at, row_of, mapped_of, with_mapped}
use Rattle.model.specs.Paging.{mapping, map_page, unmap_page}
use Rattle.model.specs.Backing.{backing, claim}
use Rattle.model.specs.Fault.{no_frame, re_entry}
use Rattle.rows.specs.LentMemory.{SoundWords}
use Rattle.fault_needs.specs.WayNeeds.{entry_full}

-- what a page's own frame asks of the machine
pub record OwnFits (w : List ℕ) (p slot page : ℕ) : Type 0 where
  pub sound : SoundWords w
  pub opened : (process_at (machine w) p).opened ≡ 1
  pub low : slot < 64
  pub frame : no_frame (machine w) ≡ false
  pub room : length (unmap_page (mapped_of (machine w) p) page) < 128
  pub entry : entry_full (machine w) (backing (machine w) p slot page) ≡ false

-- the machine of the model's own_frame
unfoldable pub owned : Machine → ℕ → ℕ → ℕ → Machine
owned m p slot page =
    let new = m.pool.next.0 in
    with_mapped (re_entry (claim m new 1) (row_of p slot) page (backing m p slot page) new) p (map_page (unmap_page (mapped_of m p) page) (mapping page new (region_at m p slot).flags.0))
