-- Errors against the rules: the soundness test refuses what a call with one wrong line leaves.
use Rattle.std.specs.Prelude.{◌≡◌, refl, Bool, true, ◌&&◌, not, cond, [], ◌∷◌, ℕ, ◌+◌, set, leb}
use Rattle.answers.specs.declared.Refusal.TheVariants.{NotWritable}
use Rattle.model.specs.declared.Region.{Region}
use Rattle.model.specs.declared.Mapping.{Mapping}
use Rattle.model.specs.declared.Backed.{Backed}
use Rattle.model.specs.declared.Backed.TheVariants.{ByEntry, ByRange, Unbacked}
use Rattle.model.specs.declared.Way.{Way}
use Rattle.model.specs.declared.Way.TheVariants.{Refuse, Restore}
use Rattle.laws.specs.Lists.{any}
use Rattle.model.specs.Machine.{Machine, with_machine, with_entries, region_at, row_of, order_of}
use Rattle.model.specs.Lookup.{is_found, is_pinned, is_attached, contains, span_end}
use Rattle.model.specs.Paging.{maps_in, is_writable, unmap_from}
use Rattle.model.specs.Backing.{entry_for, add_entry, frame_bytes}
use Rattle.model.specs.Fault.{mapped_way, re_entry, go_way}
use Rattle.model.specs.Carve.{give_entries}
use Rattle.model.specs.Clone.{Held, demote, share_entry, share_range}
use Rattle.model.specs.Protect.{page_flags}
use Rattle.model.specs.Remove.{pin_stands}
use Rattle.model.specs.Run.{Call}
use Rattle.model.specs.PointRows.{at, rw}
use Rattle.wrong_variants.specs.OneLine.{share_by, demote_by, own_by, way_by, fault_by, protect_by, carve_by, remove_by, unpin_by, close_by}
use Rattle.wrong_variants.specs.Means.{after, lazy, whole, Case, Refused}
use Rattle.wrong_variants.specs.MeansLaws.{refusedb, refused_told}
use Rattle.wrong_variants.specs.OpenVariants.{variants}

-- a write fault at the region's first page
abbrev writes : Call
writes = Call.fault 0 0x1000 true

-- (1) a clone that takes WRITABLE off the mappings of page entries and not off those of range pages
abbrev entries_alone : Machine → ℕ → ℕ → Mapping → Bool
entries_alone m p s x = maps_in (region_at m p s) x && is_found (entry_for m (row_of p s) x.page.0)

-- a range page stays writable with two holders: R5
unfoldable pub range_stays_writable : Case
range_stays_writable = record {
  before = after 1 (whole 0x1000 ∷ writes ∷ []);
  call = Call.clone 0 1;
  right = λ s. share_by demote share_entry share_range s 0 0 1;
  wrong = λ s. share_by (demote_by entries_alone) share_entry share_range s 0 0 1;
  rules = 5 ∷ [];
}

range_stays_writable_computes : refusedb range_stays_writable ≡ true
unfolding variants range_stays_writable
range_stays_writable_computes = refl

pub range_stays_writable_refused : Refused range_stays_writable
range_stays_writable_refused = refused_told range_stays_writable range_stays_writable_computes

-- (2) a clone that shares a page and does not raise its holder count
abbrev pub unheld : ℕ → Held → Machine → Machine
unheld row h m = add_entry m row h.page h.frame

-- two entries hold a backing that counts one: R3
unfoldable pub holders_not_raised : Case
holders_not_raised = record {
  before = after 1 (lazy 0x1000 ∷ writes ∷ []);
  call = Call.clone 0 1;
  right = λ s. share_by demote share_entry share_range s 0 0 1;
  wrong = λ s. share_by demote unheld share_range s 0 0 1;
  rules = 3 ∷ [];
}

holders_not_raised_computes : refusedb holders_not_raised ≡ true
unfolding variants holders_not_raised
holders_not_raised_computes = refl

pub holders_not_raised_refused : Refused holders_not_raised
holders_not_raised_refused = refused_told holders_not_raised holders_not_raised_computes

-- .. the same of a range
abbrev unheld_range : Region → Machine → Machine
unheld_range r m = m

unfoldable pub range_holders_not_raised : Case
range_holders_not_raised = record {
  before = after 1 (whole 0x1000 ∷ writes ∷ []);
  call = Call.clone 0 1;
  right = λ s. share_by demote share_entry share_range s 0 0 1;
  wrong = λ s. share_by demote share_entry unheld_range s 0 0 1;
  rules = 3 ∷ [];
}

range_holders_not_raised_computes : refusedb range_holders_not_raised ≡ true
unfolding variants range_holders_not_raised
range_holders_not_raised_computes = refl

pub range_holders_not_raised_refused : Refused range_holders_not_raised
range_holders_not_raised_refused = refused_told range_holders_not_raised range_holders_not_raised_computes

-- (3) a fault that copies a page and does not let go of the old backing
abbrev keeps_old : Machine → ℕ → ℕ → Backed → ℕ → Machine
keeps_old m row page (ByEntry i f n) new = with_entries m (set m.entries i (record { owner = row + 1; page = record { 0 = page }; frame = record { 0 = new } }))
keeps_old m row page (ByRange f n) new = add_entry m row page new
keeps_old m row page Unbacked new = add_entry m row page new

-- the old backing counts two holders and has one: R3
unfoldable pub old_backing_kept : Case
old_backing_kept = record {
  before = after 2 (lazy 0x1000 ∷ writes ∷ Call.clone 0 1 ∷ []);
  call = writes;
  right = λ s. own_by re_entry s 0 0 1 (frame_bytes s.frames 0);
  wrong = λ s. own_by keeps_old s 0 0 1 (frame_bytes s.frames 0);
  rules = 3 ∷ [];
}

old_backing_kept_computes : refusedb old_backing_kept ≡ true
unfolding variants old_backing_kept
old_backing_kept_computes = refl

pub old_backing_kept_refused : Refused old_backing_kept
old_backing_kept_refused = refused_told old_backing_kept old_backing_kept_computes

-- (4) a write fault that gives WRITABLE back without a look at the holders
abbrev pub restores : Region → Backed → Way
restores r b = cond (is_writable r.flags.0) Restore (Refuse NotWritable)

-- a page is writable with two holders: R5
unfoldable pub restored_with_two_holders : Case
restored_with_two_holders = record {
  before = after 2 (lazy 0x1000 ∷ writes ∷ Call.clone 0 1 ∷ []);
  call = writes;
  right = λ s. go_way s 0 0 1 (way_by mapped_way s.machine 0 0 1 true);
  wrong = λ s. go_way s 0 0 1 (way_by restores s.machine 0 0 1 true);
  rules = 5 ∷ [];
}

restored_with_two_holders_computes : refusedb restored_with_two_holders ≡ true
unfolding variants restored_with_two_holders
restored_with_two_holders_computes = refl

pub restored_with_two_holders_refused : Refused restored_with_two_holders
restored_with_two_holders_refused = refused_told restored_with_two_holders restored_with_two_holders_computes

-- (5) a protection that forgets the holders
abbrev pub forgets : Machine → ℕ → ℕ → ℕ → ℕ → ℕ
forgets m p s flags page = flags

-- a page is writable with two holders: R5
unfoldable pub protection_forgets_holders : Case
protection_forgets_holders = record {
  before = after 1 (lazy 0x1000 ∷ writes ∷ Call.clone 0 1 ∷ []);
  call = Call.protect 0 0x1000 rw;
  right = λ s. with_machine s (protect_by page_flags s.machine 0 0 rw);
  wrong = λ s. with_machine s (protect_by forgets s.machine 0 0 rw);
  rules = 5 ∷ [];
}

protection_forgets_holders_computes : refusedb protection_forgets_holders ≡ true
unfolding variants protection_forgets_holders
protection_forgets_holders_computes = refl

pub protection_forgets_holders_refused : Refused protection_forgets_holders
protection_forgets_holders_refused = refused_told protection_forgets_holders protection_forgets_holders_computes

-- (6) a carve that leaves the high part's entries with the low part
abbrev leaves : Machine → ℕ → ℕ → ℕ → Machine
leaves m row at new = m

-- a mapped page of the high part has no backing there, R4 and R5, and an entry lies outside its region, R6
unfoldable pub entries_left_low : Case
entries_left_low = record {
  before = after 1 (lazy 0x2000 ∷ Call.fault 0 0x2000 true ∷ []);
  call = Call.carve 0 0x2000 0x3000;
  right = λ s. carve_by give_entries s 0 0 0x2000 0x3000;
  wrong = λ s. carve_by leaves s 0 0 0x2000 0x3000;
  rules = 4 ∷ 5 ∷ 6 ∷ [];
}

entries_left_low_computes : refusedb entries_left_low ≡ true
unfolding variants entries_left_low
entries_left_low_computes = refl

pub entries_left_low_refused : Refused entries_left_low
entries_left_low_refused = refused_told entries_left_low entries_left_low_computes

-- (7) a removal of a pinned region that leaves its pages mapped
abbrev unmaps_unpinned : Machine → ℕ → Region → Machine
unmaps_unpinned m p r = cond (is_pinned r) m (unmap_from m p r)

-- a mapped page starts in no attached region: R4
unfoldable pub pinned_stays_mapped : Case
pinned_stays_mapped = record {
  before = after 1 (lazy 0x1000 ∷ writes ∷ Call.pin 0 0x1000 ∷ []);
  call = Call.remove 0 0x1000;
  right = λ s. with_machine s (remove_by unmap_from s.machine 0 0);
  wrong = λ s. with_machine s (remove_by unmaps_unpinned s.machine 0 0);
  rules = 4 ∷ [];
}

pinned_stays_mapped_computes : refusedb pinned_stays_mapped ≡ true
unfolding variants pinned_stays_mapped
pinned_stays_mapped_computes = refl

pub pinned_stays_mapped_refused : Refused pinned_stays_mapped
pinned_stays_mapped_refused = refused_told pinned_stays_mapped pinned_stays_mapped_computes

-- (8) an unpin that ends a region though it is attached
abbrev ends_all : Machine → ℕ → ℕ → Bool
ends_all m p s = true

-- its page stays mapped and is in no region, R4, and the list names a free slot, R6
unfoldable pub unpin_ends_attached : Case
unpin_ends_attached = record {
  before = after 1 (lazy 0x1000 ∷ writes ∷ Call.pin 0 0x1000 ∷ []);
  call = Call.unpin 0 0x1000;
  right = λ s. with_machine s (unpin_by (λ m p t. not (is_attached m p t)) s.machine 0 0);
  wrong = λ s. with_machine s (unpin_by ends_all s.machine 0 0);
  rules = 4 ∷ 6 ∷ [];
}

unpin_ends_attached_computes : refusedb unpin_ends_attached ≡ true
unfolding variants unpin_ends_attached
unpin_ends_attached_computes = refl

pub unpin_ends_attached_refused : Refused unpin_ends_attached
unpin_ends_attached_refused = refused_told unpin_ends_attached unpin_ends_attached_computes

-- (9) a close that asks for pins of the attached regions alone
abbrev attached_pins : Machine → ℕ → Bool
attached_pins m p = any (λ s. is_pinned (region_at m p s)) (order_of m p)

-- a closed process has a detached region: R6
unfoldable pub detached_left_by_close : Case
detached_left_by_close = record {
  before = after 1 (lazy 0x1000 ∷ Call.pin 0 0x1000 ∷ Call.remove 0 0x1000 ∷ []);
  call = Call.close 0;
  right = λ s. close_by pin_stands s 0;
  wrong = λ s. close_by attached_pins s 0;
  rules = 6 ∷ [];
}

detached_left_by_close_computes : refusedb detached_left_by_close ≡ true
unfolding variants detached_left_by_close
detached_left_by_close_computes = refl

pub detached_left_by_close_refused : Refused detached_left_by_close
detached_left_by_close_refused = refused_told detached_left_by_close detached_left_by_close_computes

-- (10) a fault whose look-up counts a region's exact end as inside
abbrev end_too : Region → ℕ → Bool
end_too r a = leb r.start.0 a && leb a (span_end r)

-- a page that starts in no region is mapped, R4, and its entry lies outside its region, R6
unfoldable pub fault_past_the_end : Case
fault_past_the_end = record {
  before = after 1 (lazy 0x1000 ∷ []);
  call = Call.fault 0 0x2000 true;
  right = λ s. fault_by contains s 0 0x2000 true;
  wrong = λ s. fault_by end_too s 0 0x2000 true;
  rules = 4 ∷ 6 ∷ [];
}

fault_past_the_end_computes : refusedb fault_past_the_end ≡ true
unfolding variants fault_past_the_end
fault_past_the_end_computes = refl

pub fault_past_the_end_refused : Refused fault_past_the_end
fault_past_the_end_refused = refused_told fault_past_the_end fault_past_the_end_computes
