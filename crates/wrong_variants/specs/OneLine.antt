-- Definitions of crate `model` with one line taken out and given as an argument, so that a wrong line can be put in. With the right line each is
-- model's own definition.
use Rattle.std.specs.Prelude.{◌≡◌, refl, Bool, ◌&&◌, not, cond, List, ℕ, ◌-◌, ◌/◌, eqb, Option, Some, None}
use Rattle.address.specs.Flags.{read_only}
use Rattle.answers.specs.declared.Refusal.TheVariants.{NotAccessible}
use Rattle.model.specs.declared.Region.{Region}
use Rattle.model.specs.declared.Mapping.{Mapping}
use Rattle.model.specs.declared.Backed.{Backed}
use Rattle.model.specs.declared.Way.{Way}
use Rattle.model.specs.declared.Way.TheVariants.{Refuse, Already}
use Rattle.laws.specs.Lists.{keep, each}
use Rattle.model.specs.Machine.{Machine, State, with_machine, with_frames, with_mapped, with_region, with_order, mapped_of, order_of, region_at, row_of}
use Rattle.model.specs.Lookup.{contains, first_slot, region_for, free_slot, row_found, is_pinned, is_shared, is_attached}
use Rattle.model.specs.Paging.{mapping, maps_in, is_user, translate, map_page, unmap_page, unmap_from, remap_where, well_mapped}
use Rattle.model.specs.Backing.{backing, claim, put_frame}
use Rattle.model.specs.Create.{add_region}
use Rattle.model.specs.Fault.{mapped_way, unmapped_way, translated_way, private_way, shared_way, fault_way, re_entry, own_frame, handle_fault}
use Rattle.model.specs.Carve.{Rest, strictly_inside, low_part, high_part, give_entries, push, split_at, split_bound, split_at_bounds}
use Rattle.model.specs.Clone.{Held, single_pages, backed_pages, shared_row, copied_row, demote, share_entry, share_range, share_into, copy_entry, copy_into}
use Rattle.model.specs.Protect.{with_flags, page_flags, set_protection}
use Rattle.model.specs.Pins.{with_pins, unpin_region}
use Rattle.model.specs.Remove.{drop_region, remove_region, close_process}

-- ---- clones

-- what takes WRITABLE off, what an entry of the clone holds, what the clone's range holds
unfoldable pub share_by : (Machine → ℕ → ℕ → Machine) → (ℕ → Held → Machine → Machine) → (Region → Machine → Machine) → State → ℕ → ℕ → ℕ → State
share_by off entry range s p slot q =
    let m = s.machine in
    let row = row_of q (row_found (free_slot m q)) in
    let added = add_region (range (region_at m p slot) (off m p slot)) q (shared_row (region_at m p slot)) in
    with_machine s (each (entry row) (single_pages m.entries (row_of p slot)) added)

pub share_right : (s : State) (p slot q : ℕ) → share_by demote share_entry share_range s p slot q ≡ share_into s p slot q
unfolding share_by share_into
share_right s p slot q = refl

-- which mappings lose WRITABLE
unfoldable pub demote_by : (Machine → ℕ → ℕ → Mapping → Bool) → Machine → ℕ → ℕ → Machine
demote_by which m p s = let r = region_at m p s in with_mapped m p (remap_where (λ x. not (is_shared r) && which m p s x) (λ x. read_only x.flags.0) (mapped_of m p))

pub demote_right : (m : Machine) (p s : ℕ) → demote_by (λ m p s x. maps_in (region_at m p s) x) m p s ≡ demote m p s
unfolding demote_by demote
demote_right m p s = refl

-- how one page is copied
unfoldable pub copy_by : (ℕ → Held → State → State) → State → ℕ → ℕ → ℕ → State
copy_by page s p slot q =
    let m = s.machine in
    let row = row_of q (row_found (free_slot m q)) in
    each (page row) (backed_pages m p slot) (with_machine s (add_region m q (copied_row (region_at m p slot))))

pub copy_right : (s : State) (p slot q : ℕ) → copy_by copy_entry s p slot q ≡ copy_into s p slot q
unfolding copy_by copy_into
copy_right s p slot q = refl

-- ---- faults

-- the entry of a page with a frame of its own
unfoldable pub own_by : (Machine → ℕ → ℕ → Backed → ℕ → Machine) → State → ℕ → ℕ → ℕ → List ℕ → State
own_by entry s p slot page content =
    let m = s.machine in
    let new = m.pool.next.0 in
    let entered = entry (claim m new 1) (row_of p slot) page (backing m p slot page) new in
    with_machine (with_frames s (put_frame s.frames new content)) (with_mapped entered p (map_page (unmap_page (mapped_of m p) page) (mapping page new (region_at m p slot).flags.0)))

pub own_right : (s : State) (p slot page : ℕ) (content : List ℕ) → own_by re_entry s p slot page content ≡ own_frame s p slot page content
unfolding own_by own_frame
own_right s p slot page content = refl

-- the way of a write to a page that is mapped read-only
abbrev translated_by : (Region → Backed → Way) → Region → Option Mapping → Backed → Bool → Way
translated_by way r (Some x) b w = cond (well_mapped (Some x) w) Already (way r b)
translated_by way r None b w = unmapped_way r b w

unfoldable pub way_by : (Region → Backed → Way) → Machine → ℕ → ℕ → ℕ → Bool → Way
way_by way m p s page w =
    let r = region_at m p s in
    let t = translate (mapped_of m p) page in
    cond (is_shared r) (shared_way t (backing m p s page)) (cond (is_user r.flags.0) (translated_by way r t (backing m p s page) w) (Refuse NotAccessible))

translated_right : (r : Region) (t : Option Mapping) (b : Backed) (w : Bool) → translated_by mapped_way r t b w ≡ translated_way r t b w
translated_right r (Some x) b w = refl
translated_right r None b w = refl

pub way_right : (m : Machine) (p s page : ℕ) (w : Bool) → way_by mapped_way m p s page w ≡ fault_way m p s page w
unfolding way_by fault_way private_way
way_right m p s page w = rw (translated_right (region_at m p s) (translate (mapped_of m p) page) (backing m p s page) w)

-- the test of an address by which the region of a fault is found
unfoldable pub region_by : (Region → ℕ → Bool) → Machine → ℕ → ℕ → Option ℕ
region_by test m p a = first_slot (λ s. test (region_at m p s) a) (order_of m p)

pub region_right : (m : Machine) (p a : ℕ) → region_by contains m p a ≡ region_for m p a
unfolding region_by region_for
region_right m p a = refl

-- a fault of the region that is found so; where none is found nothing is done
abbrev fault_in : Option ℕ → State → ℕ → ℕ → Bool → State
fault_in (Some slot) s p a w = (handle_fault s p slot (a / 4096) w).state
fault_in None s p a w = s

unfoldable pub fault_by : (Region → ℕ → Bool) → State → ℕ → ℕ → Bool → State
fault_by test s p a w = fault_in (region_by test s.machine p a) s p a w

-- ---- protection

-- the flags that a mapped page gets
unfoldable pub protect_by : (Machine → ℕ → ℕ → ℕ → ℕ → ℕ) → Machine → ℕ → ℕ → ℕ → Machine
protect_by given m p s flags =
    let r = region_at m p s in
    with_mapped (with_region m p s (with_flags r flags)) p (remap_where (maps_in r) (λ x. given m p s flags x.page.0) (mapped_of m p))

pub protect_right : (m : Machine) (p s flags : ℕ) → protect_by page_flags m p s flags ≡ set_protection m p s flags
unfolding protect_by set_protection
protect_right m p s flags = refl

-- ---- carves

-- what becomes of the high part's entries
unfoldable pub split_by : (Machine → ℕ → ℕ → ℕ → Machine) → Machine → ℕ → ℕ → ℕ → Machine
split_by give m p s at =
    let t = row_found (free_slot m p) in
    let r = region_at m p s in
    give (with_region (with_region m p s (low_part r at)) p t (high_part r at)) (row_of p s) at (row_of p t)

pub split_right : (m : Machine) (p s at : ℕ) → split_by give_entries m p s at ≡ split_at m p s at
unfolding split_by split_at
split_right m p s at = refl

unfoldable pub bound_by : (Machine → ℕ → ℕ → ℕ → Machine) → ℕ → ℕ → Rest → Rest
bound_by give p b x =
    let split : Rest = record { machine = push (split_by give x.machine p x.slot b) p x.slot; slot = row_found (free_slot x.machine p) } in
    cond (strictly_inside (region_at x.machine p x.slot) b) split x

unfoldable pub bounds_by : (Machine → ℕ → ℕ → ℕ → Machine) → Machine → ℕ → ℕ → ℕ → ℕ → Machine
bounds_by give m p s a e = let x = bound_by give p e (bound_by give p a (record { machine = m; slot = s })) in push x.machine p x.slot

pub bounds_right : (m : Machine) (p s a e : ℕ) → bounds_by give_entries m p s a e ≡ split_at_bounds m p s a e
unfolding bounds_by bound_by split_by split_at_bounds split_bound split_at
bounds_right m p s a e = refl

-- a carve of one region that crosses a bound: it is taken out of the list and split
unfoldable pub carve_by : (Machine → ℕ → ℕ → ℕ → Machine) → State → ℕ → ℕ → ℕ → ℕ → State
carve_by give s p slot a e = with_machine s (bounds_by give (with_order s.machine p (keep (λ t. not (eqb t slot)) (order_of s.machine p))) p slot a e)

-- ---- removal, pins

-- what unmaps a region's pages
unfoldable pub remove_by : (Machine → ℕ → Region → Machine) → Machine → ℕ → ℕ → Machine
remove_by unmap m p s =
    let out = with_order (unmap m p (region_at m p s)) p (keep (λ t. not (eqb t s)) (order_of m p)) in
    cond (is_pinned (region_at m p s)) out (drop_region out p s)

pub remove_right : (m : Machine) (p s : ℕ) → remove_by unmap_from m p s ≡ remove_region m p s
unfolding remove_by remove_region
remove_right m p s = refl

-- which regions end at their last unpin
unfoldable pub unpin_by : (Machine → ℕ → ℕ → Bool) → Machine → ℕ → ℕ → Machine
unpin_by ends m p s =
    let r = region_at m p s in
    let fewer = with_region m p s (with_pins r (r.pins - 1)) in
    cond (eqb r.pins 1 && ends m p s) (drop_region m p s) fewer

pub unpin_right : (m : Machine) (p s : ℕ) → unpin_by (λ m p s. not (is_attached m p s)) m p s ≡ unpin_region m p s
unfolding unpin_by unpin_region
unpin_right m p s = refl

-- when close says InUse
unfoldable pub close_by : (Machine → ℕ → Bool) → State → ℕ → State
close_by in_use s p = cond (in_use s.machine p) s (with_machine s (close_process s.machine p))
