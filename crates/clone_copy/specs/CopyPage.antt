-- One page copied into the lowest free frame, and what is left for the next (RULES K3).
use Rattle.std.specs.Prelude.{◌≡◌, cond, List, ℕ, ◌*◌, ◌≤◌, ◌<◌}
use Rattle.model.specs.declared.Entry.{Entry}
use Rattle.model.specs.Machine.{Machine}
use Rattle.model.specs.Lookup.{is_found, free_entries}
use Rattle.model.specs.Backing.{claim, add_entry, frame_bytes, put_frame, entry_for}
use Rattle.backing.specs.Ready.{Ready}
use Rattle.clone_pages.specs.Alike.{Alike}

-- the machine and the frames once a page is copied
unfoldable pub copied_machine : Machine → ℕ → ℕ → Machine
copied_machine m row page = add_entry (claim m m.pool.next.0 1) row page m.pool.next.0

unfoldable pub copied_frames : Machine → List ℕ → ℕ → List ℕ
copied_frames m l from = put_frame l m.pool.next.0 (frame_bytes l from)

-- of a range's page: unless an entry shadows it
unfoldable pub bare_machine : Machine → ℕ → ℕ → ℕ → Machine
bare_machine m src row page = let copied = copied_machine m row page in cond (is_found (entry_for m src page)) m copied

unfoldable pub bare_frames : Machine → List ℕ → ℕ → ℕ → ℕ → List ℕ
bare_frames m l src page from = let copied = copied_frames m l from in cond (is_found (entry_for m src page)) l copied

pub record CanCopy (m : Machine) (size from : ℕ) : Type 0 where
  pub ready : Ready m
  pub free : 1 ≤ m.pool.free
  pub entry : 1 ≤ free_entries m
  pub bytes : size ≡ m.frame_count * 4096
  pub inside : from < m.frame_count

-- room for so many copies, with the region's entries as in a table
pub record Room (t : List Entry) (n : Machine) (src count left : ℕ) : Type 0 where
  pub alike : Alike t n.entries src
  pub ready : Ready n
  pub frames : n.frame_count ≡ count
  pub entries : left ≤ free_entries n
  pub free : left ≤ n.pool.free
