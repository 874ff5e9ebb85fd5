-- Demand 3, the statements that the customer signs for: each speaks of one state, `Guarantee` collects them, and `Demand3Whole` says it of every state that
-- calls reach from an empty machine. What a process sees (`view`, `homeSlot`, `PrivateAt`) is in model: Posix. The proofs are in the other rooms.
use Rattle.std.specs.Prelude.{◌≡◌, ◌≢◌, Bool, true, false, ◌&&◌, List, [], ◌∷◌, ℕ, ◌+◌, ◌/◌, ◌≤◌, ◌<◌, eqb, Option, Some, None, Ok}
use Rattle.address.specs.declared.PhysFrame.{PhysFrame}
use Rattle.model.specs.declared.Mapping.{Mapping}
use Rattle.model.specs.declared.File.{File}
use Rattle.model.specs.declared.Backed.TheVariants.{ByEntry}
use Rattle.model.specs.Machine.{Machine, State, region_at, mapped_of, no_mapping}
use Rattle.model.specs.Lookup.{contains, region_for}
use Rattle.model.specs.Paging.{page_start, is_writable}
use Rattle.model.specs.Backing.{backing, backing_at}
use Rattle.model.specs.Fault.{no_room}
use Rattle.model.specs.Protect.{holders_by}
use Rattle.model.specs.Access.{page_at}
use Rattle.model.specs.Calls as calls
use Rattle.model.specs.Run.{Call, call, step, run}
use Rattle.model.specs.Run.Call.{start, sound, open_process, close, create_private, create_file, create_shared, remove, clear, carve, covers, region, regions, fault, populate, eager, clone_region, clone, protect, pin, unpin, load, store}
use Rattle.laws.specs.Tests.{Rows}
use Rattle.model.specs.Sound.{Sound, holders_of, home_of, frame_by}
use Rattle.model.specs.Posix.{view, home_slot, frame_at, PrivateAt, Readable}

-- ---- "every holder count equals the holders counted afresh; no frame lies in two backings; a private page mapped writable has exactly one holder"

-- no page of any region, attached or detached, of any process has frame f, save page pg of the region in slot `slot` of process p
abbrev pub Alone : Machine → (p slot pg f : ℕ) → Type 0
Alone m p slot pg f = (r other page : ℕ) → other < 64 → contains (region_at m r other) (page_start page) ≡ true → frame_by (backing m r other page) ≡ Some f → (r ≡ p) × ((other ≡ slot) × (page ≡ pg))

-- a mapped page lies in one attached region, and its frame is that region's; if it is private and writable its frame has one holder, and is no other page's
pub record MappedRight (m : Machine) (p : ℕ) (x : Mapping) : Type 0 where
  pub slot : ℕ
  pub home : home_of m p x ≡ Some slot
  pub frame : frame_by (backing m p slot x.page.0) ≡ Some x.frame.0
  pub lone : (region_at m p slot).kind ≢ 3 → is_writable x.flags.0 ≡ true → (holders_by (backing m p slot x.page.0) ≡ 1) × Alone m p slot x.page.0 x.frame.0

pub record Demand3 (m : Machine) : Type 0 where
  -- "every holder count equals the holders counted afresh": also that of a frame where no backing starts, which is 0
  pub counted : (f : ℕ) → (backing_at m f).holders ≡ holders_of m f
  pub held : (f : ℕ) → (backing_at m f).len ≢ 0 → 1 ≤ (backing_at m f).holders
  pub unheld : (f : ℕ) → (backing_at m f).len ≡ 0 → (backing_at m f).holders ≡ 0
  -- "no frame lies in two backings"
  pub apart : (f g x : ℕ) → f ≤ x → x < f + (backing_at m f).len → g ≤ x → x < g + (backing_at m g).len → f ≡ g
  -- "a private page mapped writable has exactly one holder": of every mapped page, so that none escapes by lying in no region or at a wrong frame
  pub mapped : (p : ℕ) → Rows no_mapping (mapped_of m p) (λ i x. MappedRight m p x)

-- "were that page ever writable on both sides": the frame of a private page that is mapped writable is mapped at no other page, of any process, whatever the rights
abbrev pub OneSideWritable : Machine → Type 0
OneSideWritable m =
    (p q slot : ℕ)
    → Rows no_mapping (mapped_of m p) (λ i x. home_of m p x ≡ Some slot → (region_at m p slot).kind ≢ 3 → is_writable x.flags.0 ≡ true
    → Rows no_mapping (mapped_of m q) (λ j y. y.frame.0 ≡ x.frame.0 → (q ≡ p) × (y.page.0 ≡ x.page.0)))

-- ---- "Hence no store by one process changes a byte another can load from a private page."

-- whatever the store answers: the other's load answers what it answered, and what it would see once the page is faulted in is the same too
abbrev pub StoresStayHome : State → Type 0
StoresStayHome s =
    (p q a b c : ℕ) → p ≢ q → PrivateAt s q c
    → ((calls.load (calls.store s p a b).state q c).answer ≡ (calls.load s q c).answer) × (view (calls.store s p a b).state q c ≡ view s q c)

-- ---- ".. until the clone's own process stores there or gives up that region or, once it is split, the part with that page"

abbrev pub same_slot : Option ℕ → Option ℕ → Bool
same_slot (Some i) (Some j) = eqb i j
same_slot (Some i) None = false
same_slot None (Some j) = false
same_slot None None = false

-- which calls may change what process q sees at address c: its own store to that very byte; its own removal of the region, or of the part, that has the
-- page now; its own clear and close; and a start, which begins a new sequence. No other call, and none of another process
unfoldable pub touches : ℕ → ℕ → State → Call → Bool
touches q c s (store p a b) = eqb p q && eqb a c
touches q c s (remove p a) = eqb p q && same_slot (region_for s.machine q a) (home_slot s q c)
touches q c s (clear p) = eqb p q
touches q c s (close p) = eqb p q
touches q c s (start files) = true
touches q c s sound = false
touches q c s (open_process a size) = false
touches q c s (create_private p place whole size flags copy thread) = false
touches q c s (create_file p place size flags copy thread file offset len) = false
touches q c s (create_shared p place size) = false
touches q c s (carve p a e) = false
touches q c s (covers p a e) = false
touches q c s (region p a) = false
touches q c s (regions p) = false
touches q c s (fault p a w) = false
touches q c s (populate p a len w) = false
touches q c s (eager p) = false
touches q c s (clone_region p a r) = false
touches q c s (clone p r) = false
touches q c s (protect p a flags) = false
touches q c s (pin p a) = false
touches q c s (unpin p a) = false
touches q c s (load p a) = false

-- a call that is not refused
unfoldable pub answered : Call → State → Bool
answered x s = eqb (call x s).answer.number 0

-- no call of a list touches, in the state that it meets; a refused one touches nothing
abbrev pub Untouched : ℕ → ℕ → List Call → State → Type 0
Untouched q c [] s = Unit {0}
Untouched q c (x ∷ l) s = ((touches q c s x && answered x s) ≡ false) × Untouched q c l (step x s)

-- what q sees at c afterwards is what p saw there in s, and it is a private page
pub record SeenAs (s after : State) (p q c : ℕ) : Type 0 where
  pub seen : view after q c ≡ view s p c
  pub private : PrivateAt after q c

-- .. what q itself saw
abbrev pub Stays : State → State → ℕ → ℕ → Type 0
Stays s after q c = SeenAs s after q q c

-- what a process sees in a private page stays: over one call that does not touch it, or is refused
abbrev pub ViewStays : State → Type 0
ViewStays s = (x : Call) (q c : ℕ) → PrivateAt s q c → (touches q c s x && answered x s) ≡ false → Stays s (step x s) q c

-- .. and over many
abbrev pub ViewStaysLong : State → Type 0
ViewStaysLong s = (l : List Call) (q c : ℕ) → PrivateAt s q c → Untouched q c l s → Stays s (run l s) q c

-- RULES N7: files are lent with their bytes and never changed, by no call at all
abbrev pub FilesStay : State → Type 0
FilesStay s = (l : List Call) → (run l s).bytes ≡ s.bytes

-- ---- "A private page backed in a region when that region is cloned holds in the clone the bytes it held then, until .."

-- byte by byte, of a page that is not backed too
abbrev pub CloneKeepsBytes : State → Type 0
CloneKeepsBytes s =
    (p a q c slot : ℕ) → (calls.clone_region s p a q).answer ≡ Ok tt → region_for s.machine p a ≡ Some slot → home_slot s p c ≡ Some slot → PrivateAt s p c
    → (l : List Call) → Untouched q c l (calls.clone_region s p a q).state → SeenAs s (run l (calls.clone_region s p a q).state) p q c

-- .. so a byte that the clone's process loads there is the one that the source showed
abbrev pub CloneLoads : State → Type 0
CloneLoads s =
    (p a q c slot b : ℕ) → (calls.clone_region s p a q).answer ≡ Ok tt → region_for s.machine p a ≡ Some slot → home_slot s p c ≡ Some slot → PrivateAt s p c
    → (l : List Call) → Untouched q c l (calls.clone_region s p a q).state
    → (calls.load (run l (calls.clone_region s p a q).state) q c).answer ≡ Ok b → view s p c ≡ Some b

-- the same where the region is cloned with its whole process, which leaves out what is one thread's own
abbrev pub ForkKeepsBytes : State → Type 0
ForkKeepsBytes s =
    (p q c slot : ℕ) → (calls.clone s p q).answer ≡ Ok tt → home_slot s p c ≡ Some slot → (region_at s.machine p slot).per_thread ≡ 0 → PrivateAt s p c
    → (l : List Call) → Untouched q c l (calls.clone s p q).state → SeenAs s (run l (calls.clone s p q).state) p q c

-- .. and what is loaded there
abbrev pub ForkLoads : State → Type 0
ForkLoads s =
    (p q c slot b : ℕ) → (calls.clone s p q).answer ≡ Ok tt → home_slot s p c ≡ Some slot → (region_at s.machine p slot).per_thread ≡ 0 → PrivateAt s p c
    → (l : List Call) → Untouched q c l (calls.clone s p q).state → (calls.load (run l (calls.clone s p q).state) q c).answer ≡ Ok b → view s p c ≡ Some b

-- .. and where the process's clone is refused half-way, of the regions that were cloned before: where q has a home that it had not
abbrev pub ForkPartKeepsBytes : State → Type 0
ForkPartKeepsBytes s =
    (p q c slot : ℕ) → p ≢ q → home_slot s q c ≡ None → home_slot (calls.clone s p q).state q c ≡ Some slot → PrivateAt s p c
    → (l : List Call) → Untouched q c l (calls.clone s p q).state → SeenAs s (run l (calls.clone s p q).state) p q c

-- so that these are no empty words: a page that is backed can be read. Where its region gives user access, or is Shared, and fewer than 128 pages are
-- mapped, a read fault succeeds, and the load after it answers what is seen
abbrev pub BackedReads : State → Type 0
BackedReads s =
    (p a b slot f : ℕ) → region_for s.machine p a ≡ Some slot → Readable (region_at s.machine p slot) → frame_at s p a ≡ Some f → no_room s.machine p ≡ false → view s p a ≡ Some b
    → ((calls.fault s p a false).answer ≡ Ok tt) × ((calls.load (calls.fault s p a false).state p a).answer ≡ Ok b)

-- ---- RULES K3: a CopyEager region has each of its backed pages copied

-- a page with a frame of its own: held by an entry, by one holder, counted afresh too, and no other page's
pub record OwnPage (m : Machine) (q slot pg : ℕ) : Type 0 where
  pub entry : ℕ
  pub frame : PhysFrame
  pub backed : backing m q slot pg ≡ ByEntry entry frame 1
  pub counted : holders_of m frame.0 ≡ 1
  pub alone : Alone m q slot pg frame.0

pub record OwnsAt (s : State) (q c : ℕ) : Type 0 where
  pub slot : ℕ
  pub home : home_slot s q c ≡ Some slot
  pub own : OwnPage s.machine q slot (c / 4096)

-- what a clone of the CopyEager region in slot `slot` of p leaves: no mapping of any process is another, so the source's keep their rights; each page that
-- was backed is the clone's own; no other is backed in the clone
pub record EagerOwns (s after : State) (p slot q : ℕ) : Type 0 where
  pub rights : (r : ℕ) → mapped_of after.machine r ≡ mapped_of s.machine r
  pub owns : (c f : ℕ) → home_slot s p c ≡ Some slot → frame_at s p c ≡ Some f → OwnsAt after q c
  pub bare : (c : ℕ) → home_slot s p c ≡ Some slot → frame_at s p c ≡ None → frame_at after q c ≡ None

-- fork is 1 where the region is CopyEager; it is then Private or FileBacked (R6)
abbrev pub EagerCloneOwns : State → Type 0
EagerCloneOwns s =
    (p a q slot : ℕ) → (calls.clone_region s p a q).answer ≡ Ok tt → region_for s.machine p a ≡ Some slot → (region_at s.machine p slot).fork ≡ 1
    → EagerOwns s (calls.clone_region s p a q).state p slot q

-- the same where it is cloned with its whole process: the source's page is mapped as it was, whatever the answer, and if all is cloned the page is the
-- clone's own at the end
pub record EagerForked (s after : State) (p slot q c : ℕ) (done : Type 0) : Type 0 where
  pub rights : page_at after.machine p c ≡ page_at s.machine p c
  pub owns : done → (region_at s.machine p slot).per_thread ≡ 0 → (f : ℕ) → frame_at s p c ≡ Some f → OwnsAt after q c

abbrev pub EagerForkOwns : State → Type 0
EagerForkOwns s =
    (p q c slot : ℕ) → home_slot s p c ≡ Some slot → (region_at s.machine p slot).fork ≡ 1
    → EagerForked s (calls.clone s p q).state p slot q c ((calls.clone s p q).answer ≡ Ok tt)

-- ---- the whole

pub record Guarantee (s : State) : Type 0 where
  -- RULES R1 to R6
  pub rules : Sound s
  -- "every holder count equals the holders counted afresh; no frame lies in two backings; a private page mapped writable has exactly one holder."
  pub books : Demand3 s.machine
  -- "were that page ever writable on both sides": it never is
  pub one_side : OneSideWritable s.machine
  -- "Hence no store by one process changes a byte another can load from a private page."
  pub stores : StoresStayHome s
  -- nor does any call, save those that touch it
  pub stays : ViewStays s
  pub stays_long : ViewStaysLong s
  pub files : FilesStay s
  -- "A private page backed in a region when that region is cloned holds in the clone the bytes it held then, until the clone's own process stores there or
  -- gives up that region or, once it is split, the part with that page."
  pub clone : CloneKeepsBytes s
  pub loads : CloneLoads s
  pub fork : ForkKeepsBytes s
  pub fork_loads : ForkLoads s
  pub fork_part : ForkPartKeepsBytes s
  pub reads : BackedReads s
  -- an eager clone owns its frames
  pub eager : EagerCloneOwns s
  pub eager_fork : EagerForkOwns s

-- RULES D3: from an empty machine, after any sequence of calls, refused ones included: whatever memory and files are lent, if start accepts them
abbrev pub Demand3Whole : Type 0
Demand3Whole = (lent : State) (files : List File) → (calls.start lent files).answer ≡ Ok tt → (l : List Call) → Guarantee (run l (calls.start lent files).state)
