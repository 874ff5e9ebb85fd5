-- Errors against isolation: with one wrong line a process sees a byte that another stored, or a clone or a part does not see the byte that it should.
use Rattle.std.specs.Prelude.{◌≡◌, refl, Bool, true, ◌&&◌, cond, List, [], ◌∷◌, ◌++◌, map, ℕ, ◌+◌, ◌/◌, take, drop, eqb, leb}
use Rattle.model.specs.declared.Entry.{Entry}
use Rattle.laws.specs.Lists.{keep, each}
use Rattle.model.specs.Machine.{Machine, State, with_machine, with_frames, with_entries, no_entry}
use Rattle.model.specs.Backing.{claim, let_go, add_entry, frame_bytes, put_frame}
use Rattle.model.specs.Fault.{mapped_way, go_way, handle_fault}
use Rattle.model.specs.Carve.{give_entries}
use Rattle.model.specs.Clone.{Held, demote, share_entry, share_range, copy_entry}
use Rattle.model.specs.Protect.{page_flags}
use Rattle.model.specs.Run.{Call}
use Rattle.model.specs.PointRows.{at, rw}
use Rattle.wrong_variants.specs.OneLine.{share_by, copy_by, way_by, protect_by, carve_by}
use Rattle.wrong_variants.specs.Means.{after, lazy, eager, put, Case, Sight, Seen}
use Rattle.wrong_variants.specs.MeansLaws.{seenb, seen_told}
use Rattle.wrong_variants.specs.OpenVariants.{variants}
use Rattle.wrong_variants.specs.RefusedVariants.{unheld, restores, forgets}

-- (11) a clone that leaves the source's mappings writable
abbrev leaves_on : Machine → ℕ → ℕ → Machine
leaves_on m p s = m

unfoldable pub writable_on_both_sides : Case
writable_on_both_sides = record {
  before = after 2 (lazy 0x1000 ∷ Call.fault 0 0x1000 true ∷ Call.store 0 0x1000 31 ∷ Call.store 0 0x1001 12 ∷ Call.store 0 0x1002 20 ∷ Call.store 0 0x1003 26 ∷ []);
  call = Call.clone 0 1;
  right = λ s. share_by demote share_entry share_range s 0 0 1;
  wrong = λ s. share_by leaves_on share_entry share_range s 0 0 1;
  rules = 5 ∷ [];
}

-- intake stores the first byte of a new date at once, and the worker sees it
unfoldable pub new_date : Sight
new_date = record { follows = put 0 0x1000 15; of = 0; by = 1; address = 0x1000; good = 31; bad = 15 }

writable_on_both_sides_computes : seenb writable_on_both_sides new_date ≡ true
unfolding variants writable_on_both_sides new_date
writable_on_both_sides_computes = refl

pub writable_on_both_sides_seen : Seen writable_on_both_sides new_date
writable_on_both_sides_seen = seen_told writable_on_both_sides new_date writable_on_both_sides_computes

-- (12) a clone that copies a page one byte short: the new frame keeps its last byte
abbrev one_short : ℕ → Held → State → State
one_short row h s =
    let new = s.machine.pool.next.0 in
    with_machine (with_frames s (put_frame s.frames new (take 4095 (frame_bytes s.frames h.frame) ++ drop 4095 (frame_bytes s.frames new)))) (add_entry (claim s.machine new 1) row h.page new)

unfoldable pub copied_short : Case
copied_short = record {
  before = after 2 (eager 0x1000 ∷ Call.fault 0 0x1000 true ∷ Call.store 0 0x1fff 9 ∷ []);
  call = Call.clone 0 1;
  right = λ s. copy_by copy_entry s 0 0 1;
  wrong = λ s. copy_by one_short s 0 0 1;
  rules = [];
}

-- the clone sees what was in the frame before; the machine is sound
unfoldable pub last_byte : Sight
last_byte = record { follows = λ s. s; of = 0; by = 1; address = 0x1fff; good = 9; bad = 7 }

copied_short_computes : seenb copied_short last_byte ≡ true
unfolding variants copied_short last_byte
copied_short_computes = refl

pub copied_short_seen : Seen copied_short last_byte
copied_short_seen = seen_told copied_short last_byte copied_short_computes

-- (13) an eager clone that shares a page instead of copying it, and leaves the source's mapping writable (NotEager: one that takes WRITABLE off)
abbrev shares_page : ℕ → Held → State → State
shares_page row h s = with_machine s (share_entry row h s.machine)

unfoldable pub eager_shares : Case
eager_shares = record {
  before = after 2 (eager 0x1000 ∷ Call.fault 0 0x1000 true ∷ Call.store 0 0x1000 31 ∷ []);
  call = Call.clone 0 1;
  right = λ s. copy_by copy_entry s 0 0 1;
  wrong = λ s. copy_by shares_page s 0 0 1;
  rules = 5 ∷ [];
}

-- the source's next store is seen by the clone
eager_shares_computes : seenb eager_shares new_date ≡ true
unfolding variants eager_shares new_date
eager_shares_computes = refl

pub eager_shares_seen : Seen eager_shares new_date
eager_shares_seen = seen_told eager_shares new_date eager_shares_computes

-- (14) a carve that loses the high part's entries, and lets go of their frames
abbrev high : ℕ → ℕ → Entry → Bool
high row at e = eqb e.owner (row + 1) && leb (at / 4096) e.page.0

abbrev loses : Machine → ℕ → ℕ → ℕ → Machine
loses m row at new = with_entries (each (λ e n. let_go n e.frame.0) (keep (high row at) m.entries) m) (map (λ e. cond (high row at e) no_entry e) m.entries)

unfoldable pub entry_lost : Case
entry_lost = record {
  before = after 2 (lazy 0x2000 ∷ Call.fault 0 0x2000 true ∷ Call.store 0 0x2000 9 ∷ Call.clone 0 1 ∷ []);
  call = Call.carve 1 0x2000 0x3000;
  right = λ s. carve_by give_entries s 1 0 0x2000 0x3000;
  wrong = λ s. carve_by loses s 1 0 0x2000 0x3000;
  rules = [];
}

-- the page of the part is filled with zeros; the machine is sound
unfoldable pub parts_byte : Sight
parts_byte = record { follows = λ s. s; of = 1; by = 1; address = 0x2000; good = 9; bad = 0 }

entry_lost_computes : seenb entry_lost parts_byte ≡ true
unfolding variants entry_lost parts_byte
entry_lost_computes = refl

pub entry_lost_seen : Seen entry_lost parts_byte
entry_lost_seen = seen_told entry_lost parts_byte entry_lost_computes

-- ---- what Refused's (2), (4) and (5) would let be seen

-- process 0's page with the byte 31, not yet cloned and cloned
abbrev dated : List Call
dated = lazy 0x1000 ∷ Call.fault 0 0x1000 true ∷ Call.store 0 0x1000 31 ∷ []

abbrev cloned : List Call
cloned = lazy 0x1000 ∷ Call.fault 0 0x1000 true ∷ Call.store 0 0x1000 31 ∷ Call.clone 0 1 ∷ []

-- (2) holders not raised: the clone's write fault finds one holder, maps the shared frame writable, and its store is seen by the source
unfoldable pub unheld_clone : Case
unheld_clone = record {
  before = after 2 dated;
  call = Call.clone 0 1;
  right = λ s. share_by demote share_entry share_range s 0 0 1;
  wrong = λ s. share_by demote unheld share_range s 0 0 1;
  rules = 3 ∷ [];
}

unfoldable pub clones_store : Sight
clones_store = record { follows = λ s. put 1 0x1000 15 (handle_fault s 1 0 1 true).state; of = 0; by = 0; address = 0x1000; good = 31; bad = 15 }

unheld_clone_computes : seenb unheld_clone clones_store ≡ true
unfolding variants unheld_clone clones_store
unheld_clone_computes = refl

pub unheld_clone_seen : Seen unheld_clone clones_store
unheld_clone_seen = seen_told unheld_clone clones_store unheld_clone_computes

-- (4) WRITABLE restored with two holders: the source's store is seen by the clone
unfoldable pub restored_shared : Case
restored_shared = record {
  before = after 2 cloned;
  call = Call.fault 0 0x1000 true;
  right = λ s. go_way s 0 0 1 (way_by mapped_way s.machine 0 0 1 true);
  wrong = λ s. go_way s 0 0 1 (way_by restores s.machine 0 0 1 true);
  rules = 5 ∷ [];
}

restored_shared_computes : seenb restored_shared new_date ≡ true
unfolding variants restored_shared new_date
restored_shared_computes = refl

pub restored_shared_seen : Seen restored_shared new_date
restored_shared_seen = seen_told restored_shared new_date restored_shared_computes

-- (5) protection without the holders: the same
unfoldable pub protected_shared : Case
protected_shared = record {
  before = after 2 cloned;
  call = Call.protect 0 0x1000 rw;
  right = λ s. with_machine s (protect_by page_flags s.machine 0 0 rw);
  wrong = λ s. with_machine s (protect_by forgets s.machine 0 0 rw);
  rules = 5 ∷ [];
}

protected_shared_computes : seenb protected_shared new_date ≡ true
unfolding variants protected_shared new_date
protected_shared_computes = refl

pub protected_shared_seen : Seen protected_shared new_date
protected_shared_seen = seen_told protected_shared new_date protected_shared_computes
