-- What ends a region: dropped, removed, cleared with all of its process, closed. The Rust's remove_region and clear.
use Rattle.std.specs.Prelude.{Bool, not, cond, List, map, ℕ, ◌+◌, set, eqb}
use Rattle.model.specs.declared.Entry.{Entry}
use Rattle.laws.specs.Lists.{keep, any, each}
use Rattle.model.specs.Machine.{Machine, with_processes, with_entries, with_region, with_order, order_of, region_at, row_of, no_process, no_region, no_entry}
use Rattle.model.specs.Lookup.{is_pinned, is_ranged, regions_of}
use Rattle.model.specs.Paging.{unmap_from}
use Rattle.model.specs.Backing.{let_go}

-- the frames of a region's page entries
unfoldable pub frames_of : List Entry → ℕ → List ℕ
frames_of l row = map (λ e. e.frame.0) (keep (λ e. eqb e.owner (row + 1)) l)

-- its page entries and its range let go, its entries and its slot free: the Rust's drop of a MemoryRegion
unfoldable pub drop_region : Machine → ℕ → ℕ → Machine
drop_region m p s =
    let row = row_of p s in
    let r = region_at m p s in
    let pages = each (λ f n. let_go n f) (frames_of m.entries row) m in
    let all = cond (is_ranged r) (let_go pages r.range.0) pages in
    with_region (with_entries all (map (λ e. cond (eqb e.owner (row + 1)) no_entry e) m.entries)) p s no_region

-- RULES M2: removing a pinned region unmaps and detaches it; it holds backings and segment until its last unpin: the Rust's remove_region
unfoldable pub remove_region : Machine → ℕ → ℕ → Machine
remove_region m p s =
    let out = with_order (unmap_from m p (region_at m p s)) p (keep (λ t. not (eqb t s)) (order_of m p)) in
    cond (is_pinned (region_at m p s)) out (drop_region out p s)

-- RULES M3, so for all regions: the Rust's clear
unfoldable pub clear_regions : Machine → ℕ → Machine
clear_regions m p = each (λ s n. remove_region n p s) (order_of m p) m

-- RULES M4: close refuses InUse while a pin stands
unfoldable pub pin_stands : Machine → ℕ → Bool
pin_stands m p = any is_pinned (regions_of m p)

-- a closed process is empty
unfoldable pub close_process : Machine → ℕ → Machine
close_process m p = let empty = clear_regions m p in with_processes empty (set empty.processes p no_process)
