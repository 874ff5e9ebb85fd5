-- POSIX.1-2017 on private mappings and fork: what a process sees, and what is to hold of it. Statements; crate `isolation` proves them of the calls.
use Rattle.std.specs.Prelude.{◌≡◌, ◌⊎◌, ◌≢◌, Bool, true, false, cond, ℕ, ◌+◌, ◌*◌, ◌/◌, ◌%◌, get_or, Option, Some, None, Ok}
use Rattle.model.specs.declared.Region.{Region}
use Rattle.model.specs.declared.Backed.{Backed}
use Rattle.model.specs.declared.Backed.TheVariants.{ByEntry, ByRange, Unbacked}
use Rattle.model.specs.Machine.{State, region_at}
use Rattle.model.specs.Lookup.{region_for}
use Rattle.model.specs.Paging.{page_start, is_user}
use Rattle.model.specs.Backing.{backing}
use Rattle.model.specs.Fault.{fill_of, read_fails}
use Rattle.model.specs.Sound.{Sound, frame_by}
use Rattle.model.specs.Calls.{load, store, fault, clone_region, clone}

-- the byte of a page that is backed, or of what would fill it; nothing where the file cannot be read
unfoldable pub view_by : State → Region → ℕ → ℕ → Backed → Option ℕ
view_by s r page offset (ByEntry i f n) = Some (get_or s.frames (f.0 * 4096 + offset) 0)
view_by s r page offset (ByRange f n) = Some (get_or s.frames (f.0 * 4096 + offset) 0)
view_by s r page offset Unbacked = cond (read_fails s.machine r page) None (Some (get_or (fill_of s r page) offset 0))

-- the slot of the attached region in which an address's page starts
abbrev pub home_slot : State → ℕ → ℕ → Option ℕ
home_slot s p a = region_for s.machine p (page_start (a / 4096))

-- what process p sees at address a: the byte that a load would give once the page is faulted in; nothing where its page starts in no region
unfoldable pub view : State → ℕ → ℕ → Option ℕ
view s p a = view_in (home_slot s p a)
  where
    view_in : Option ℕ → Option ℕ
    view_in None = None
    view_in (Some slot) = view_by s (region_at s.machine p slot) (a / 4096) (a % 4096) (backing s.machine p slot (a / 4096))

-- the kind of the region at an address: 0 where there is none
abbrev pub kind_in : State → ℕ → Option ℕ → ℕ
kind_in s p None = 0
kind_in s p (Some slot) = (region_at s.machine p slot).kind

abbrev pub kind_at : State → ℕ → ℕ → ℕ
kind_at s p a = kind_in s p (home_slot s p a)

-- a private page or mapping is one of a Private or FileBacked region (RULES R0)
pub record PrivateAt (s : State) (p a : ℕ) : Type 0 where
  pub some : kind_at s p a ≢ 0
  pub unshared : kind_at s p a ≢ 3

-- ---- that `view` is what it is said to be

-- a granted load answers the view
abbrev pub LoadIsView : Type 0
LoadIsView = (s : State) (p a b : ℕ) → Sound s → (load s p a).answer ≡ Ok b → view s p a ≡ Some b

-- a region whose pages its process may read: one with user access, or a Shared one, whose row has no flags and whose mappings have all four
abbrev pub Readable : Region → Type 0
Readable r = (is_user r.flags.0 ≡ true) ⊎ (r.kind ≡ 3)

-- a read fault that succeeds brings the view to the load, private or Shared (a page mapped before its region lost user access stays Denied)
abbrev pub FaultShowsView : Type 0
FaultShowsView =
    (s : State) (p a b slot : ℕ) → Sound s → home_slot s p a ≡ Some slot → Readable (region_at s.machine p slot)
    → view s p a ≡ Some b → (fault s p a false).answer ≡ Ok tt → (load (fault s p a false).state p a).answer ≡ Ok b

-- no fault changes what anyone sees
abbrev pub FaultKeepsViews : Type 0
FaultKeepsViews = (s : State) (p a : ℕ) (w : Bool) → Sound s → (q c : ℕ) → view (fault s p a w).state q c ≡ view s q c

-- ---- mmap(), DESCRIPTION: "If MAP_PRIVATE is specified, modifications to the mapped data by the calling process shall be visible only to the
-- calling process and shall not change the underlying object."

pub record StoredAlone (s after : State) (p a b : ℕ) : Type 0 where
  pub own : view after p a ≡ Some b
  pub elsewhere : (c : ℕ) → c ≢ a → view after p c ≡ view s p c
  pub others : (q c : ℕ) → q ≢ p → view after q c ≡ view s q c
  pub object : after.bytes ≡ s.bytes

abbrev pub PrivateStore : Type 0
PrivateStore = (s : State) (p a b : ℕ) → Sound s → PrivateAt s p a → (store s p a b).answer ≡ Ok tt → StoredAlone s (store s p a b).state p a b

-- the frame that backs an address
abbrev pub frame_in : State → ℕ → ℕ → Option ℕ → Option ℕ
frame_in s p page None = None
frame_in s p page (Some slot) = frame_by (backing s.machine p slot page)

abbrev pub frame_at : State → ℕ → ℕ → Option ℕ
frame_at s p a = frame_in s p (a / 4096) (home_slot s p a)

-- mmap(), DESCRIPTION: "If MAP_SHARED is specified, write references shall change the underlying object": every process sees the store through the
-- same frame, and no one sees another byte changed
pub record StoredShared (s after : State) (f offset b : ℕ) : Type 0 where
  pub seen : (q c : ℕ) → frame_at s q c ≡ Some f → c % 4096 ≡ offset → view after q c ≡ Some b
  pub elsewhere : (q c : ℕ) → (frame_at s q c ≢ Some f) ⊎ (c % 4096 ≢ offset) → view after q c ≡ view s q c

abbrev pub SharedStore : Type 0
SharedStore = (s : State) (p a b f : ℕ) → Sound s → kind_at s p a ≡ 3 → (store s p a b).answer ≡ Ok tt → frame_at s p a ≡ Some f → StoredShared s (store s p a b).state f (a % 4096) b

-- ---- fork(), DESCRIPTION: "Memory mappings created in the parent shall be retained in the child process. MAP_PRIVATE mappings inherited from the
-- parent shall also be MAP_PRIVATE mappings in the child, and any modifications to the data in these mappings made by the parent prior to
-- calling fork() shall be visible to the child."

pub record Inherited (s after : State) (p q a : ℕ) : Type 0 where
  pub seen : view after q a ≡ view s p a
  pub kind : kind_at after q a ≡ kind_at s p a
  -- a Shared mapping is retained as one of the same object: what either side stores there later, both see (SharedStore)
  pub object : kind_at s p a ≡ 3 → frame_at after q a ≡ frame_at s p a

-- the child's view is the parent's at the fork, for every region that is not one thread's own
abbrev pub ForkInherits : Type 0
ForkInherits =
    (s : State) (p q a slot : ℕ) → Sound s → (clone s p q).answer ≡ Ok tt → home_slot s p a ≡ Some slot → (region_at s.machine p slot).per_thread ≡ 0
    → Inherited s (clone s p q).state p q a

-- the parent, and everyone else, sees what it saw, and the child too in the regions that it had; whatever the answer
abbrev pub ForkKeepsOthers : Type 0
ForkKeepsOthers = (s : State) (p q : ℕ) → Sound s → (r c : ℕ) → (r ≢ q) ⊎ (home_slot s r c ≢ None) → view (clone s p q).state r c ≡ view s r c

-- the same of one region
abbrev pub CloneInherits : Type 0
CloneInherits =
    (s : State) (p q a c slot : ℕ) → Sound s → (clone_region s p a q).answer ≡ Ok tt → region_for s.machine p a ≡ Some slot → home_slot s p c ≡ Some slot
    → Inherited s (clone_region s p a q).state p q c

abbrev pub CloneKeepsOthers : Type 0
CloneKeepsOthers = (s : State) (p a q : ℕ) → Sound s → (r c : ℕ) → (r ≢ q) ⊎ (home_slot s r c ≢ None) → view (clone_region s p a q).state r c ≡ view s r c

-- fork(): "Any modifications to the data in MAP_PRIVATE mappings made by the parent after fork() returns shall be visible only to the parent.
-- Modifications to the data in MAP_PRIVATE mappings made by the child shall be visible only to the child." This is PrivateStore on every sound
-- state, those after a fork among them.

-- everything that POSIX is asked for
pub record Posix : Type 0 where
  pub load : LoadIsView
  pub fault : FaultShowsView
  pub views : FaultKeepsViews
  pub private : PrivateStore
  pub shared : SharedStore
  pub fork : ForkInherits
  pub keeps : ForkKeepsOthers
  pub clone : CloneInherits
  pub clone_keeps : CloneKeepsOthers
