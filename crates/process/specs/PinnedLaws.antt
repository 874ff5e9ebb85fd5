-- Whether a process has a pinned region: what the loop over its slots knows once it has passed i of them.
use Rattle.std.specs.Prelude.{◌≡◌, true, false, List, ℕ, ◌+◌, ◌*◌, ◌≤◌, ◌<◌, get_or}
use Rattle.std.proofs.Common.{lt-ltb, le-ltb}
use Rattle.model.specs.declared.Region.{Region}
use Rattle.model.specs.Machine.{no_region}
use Rattle.model.specs.Layout.{machine}
use Rattle.model.specs.Lookup.{is_pinned, regions_of}
use Rattle.model.specs.Remove.{pin_stands}
use Rattle.lookup.specs.LookupsLaws.{slots_length, slot_at}
use Rattle.laws.specs.Loops.{Sought}
use Rattle.laws.specs.LoopLaws.{sought_found, sought_more, sought_none}

-- none of the first i is pinned
abbrev pub Unpinned : List ℕ → ℕ → ℕ → Type 0
Unpinned w p i = Sought is_pinned (regions_of (machine w) p) 64 i

module _ (w : List ℕ) (p : ℕ) (h : p < 8) (i : ℕ) (s : Unpinned w p i) where
  module _ (k : i < 64) (r : Region) (read : r ≡ get_or (machine w).regions (p * 64 + i) no_region) where
    pub pin_found : 0 < r.pins → true ≡ pin_stands (machine w) p
    unfolding pin_stands
    pin_found q = sought_found is_pinned (regions_of (machine w) p) 64 (slots_length w p h) i s k no_region r (slot_at w p i r k read) (lt-ltb 0 r.pins q)

    pub pin_later : r.pins ≤ 0 → Unpinned w p (i + 1)
    pin_later q = sought_more is_pinned (regions_of (machine w) p) 64 (slots_length w p h) i s k no_region r (slot_at w p i r k read) (le-ltb 0 r.pins q)

  pub pin_none : 64 ≤ i → false ≡ pin_stands (machine w) p
  unfolding pin_stands
  pin_none q = sought_none is_pinned (regions_of (machine w) p) 64 (slots_length w p h) i s q
