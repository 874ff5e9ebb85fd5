-- The public calls: the soundness test, the refusals in the order of their numbers, then the core. RULES E, O, C, V, T, U, K, M, L.
use Rattle.std.specs.Prelude.{Bool, true, false, not, cond, List, [], ◌∷◌, ℕ, ◌/◌, length, set, Result, Ok, Err, ⊤}
use Rattle.address.specs.declared.VirtAddr.{VirtAddr}
use Rattle.answers.specs.declared.Refusal.{Refusal}
use Rattle.answers.specs.declared.Refusal.TheVariants.{BadTable}
use Rattle.model.specs.declared.Process.{Process}
use Rattle.model.specs.declared.Region.{Region}
use Rattle.model.specs.declared.File.{File}
use Rattle.model.specs.declared.Place.{Place}
use Rattle.model.specs.declared.Listed.{Listed}
use Rattle.model.specs.Machine.{State, with_machine, with_processes, region_at, order_of, empty_machine}
use Rattle.model.specs.Answers.{After, Try, leaving, fine, first_of, listing, not_listed}
use Rattle.model.specs.Lookup.{row_found, covered, starts_of}
use Rattle.model.specs.Create.{create_refusals, core_create, created_at, wanted_private, wanted_file, wanted_shared}
use Rattle.model.specs.Fault.{handle_fault}
use Rattle.model.specs.Populate.{core_populate, core_populate_eager_copies}
use Rattle.model.specs.Carve.{core_carve}
use Rattle.model.specs.Clone.{core_clone_region, core_clone}
use Rattle.model.specs.Protect.{set_protection}
use Rattle.model.specs.Remove.{remove_region, clear_regions, close_process}
use Rattle.model.specs.Pins.{pin_region, unpin_region}
use Rattle.model.specs.Access.{loaded, stored}
use Rattle.model.specs.SoundTest.{soundb}
use Rattle.model.specs.Refusals.{slot_at, start_refusals, closed_row, open_refusals, close_refusals, process_refusals, region_refusals, carve_refusals, populate_refusals, clone_region_refusals, clone_process_refusals, protect_refusals, pin_refusals, unpin_slot, unpin_refusals, access_refusals}

-- RULES O1, O2: a refusal returns its number and zero elsewhere and changes nothing; E1: BadTable before all where the lent machine breaks R1 to R6
abbrev pub decided : {A : Type 0} → Result ⊤ Refusal → (Refusal → A) → State → After A → After A
decided (Ok tt) refusal s t = t
decided (Err r) refusal s t = leaving (refusal r) s

unfoldable pub guarded : {A : Type 0} → State → (Refusal → A) → List (Bool × Refusal) → After A → After A
guarded s refusal tests t = decided (first_of ((not (soundb s), BadTable) ∷ tests)) refusal s t

-- ---- the machine itself

-- RULES W4, start begins a new sequence: whatever the machine was, it is empty now; the frames' bytes stay
unfoldable pub start : State → List File → Try
start s files = decided (first_of (start_refusals s files)) Err s (fine (with_machine s (empty_machine (length s.frames / 4096) files)))

-- the soundness test as a call
unfoldable pub sound : State → Try
sound s = guarded s Err [] (fine s)

-- ---- processes

abbrev pub opened_row : ℕ → ℕ → Process
opened_row a size = record { opened = 1; start = record { 0 = a }; size = size; attached = 0; mapped = 0 }

unfoldable pub core_open : State → ℕ → ℕ → After (Result ℕ Refusal)
core_open s a size = let p = row_found (closed_row s.machine) in leaving (Ok p) (with_machine s (with_processes s.machine (set s.machine.processes p (opened_row a size))))

-- RULES W6, W7: open takes the lowest closed number, with an arena of user addresses, page-aligned at both ends
unfoldable pub open_process : State → ℕ → ℕ → After (Result ℕ Refusal)
open_process s a size = guarded s Err (open_refusals s a size) (core_open s a size)

-- RULES M4: close refuses InUse while a pin stands
unfoldable pub close : State → ℕ → Try
close s p = guarded s Err (close_refusals s p) (fine (with_machine s (close_process s.machine p)))

-- ---- creation, removal

unfoldable pub create : State → ℕ → Place → Bool → Region → After (Result VirtAddr Refusal)
create s p place eager r = guarded s Err (create_refusals s.machine p place eager r) (leaving (Ok (created_at s p place r)) (core_create s p place eager r))

-- lazy, or eager; fork policy CopyOnWrite, or CopyEager where `copy`
unfoldable pub create_private : State → ℕ → Place → Bool → ℕ → ℕ → Bool → Bool → After (Result VirtAddr Refusal)
create_private s p place eager size flags copy thread = create s p place eager (wanted_private size flags copy thread)

unfoldable pub create_file : State → ℕ → Place → ℕ → ℕ → Bool → Bool → ℕ → ℕ → ℕ → After (Result VirtAddr Refusal)
create_file s p place size flags copy thread file offset len = create s p place false (wanted_file size flags copy thread file offset len)

unfoldable pub create_shared : State → ℕ → Place → ℕ → After (Result VirtAddr Refusal)
create_shared s p place size = create s p place false (wanted_shared size)

unfoldable pub remove : State → ℕ → ℕ → Try
remove s p a = guarded s Err (region_refusals s p a) (fine (with_machine s (remove_region s.machine p (slot_at s p a))))

unfoldable pub clear : State → ℕ → Try
clear s p = guarded s Err (process_refusals s p) (fine (with_machine s (clear_regions s.machine p)))

unfoldable pub carve : State → ℕ → ℕ → ℕ → After Listed
carve s p a e = guarded s not_listed (carve_refusals s p a e) (core_carve s p a e)

-- ---- looking

-- RULES V5: covers takes any two numbers
unfoldable pub covers : State → ℕ → ℕ → ℕ → After (Result Bool Refusal)
covers s p a e = guarded s Err (process_refusals s p) (leaving (cond (covered s.machine p a e) (Ok true) (Ok false)) s)

-- the region at an address: the Rust's region_for; answers and lists give starts (RULES C2)
unfoldable pub region : State → ℕ → ℕ → After (Result VirtAddr Refusal)
region s p a = guarded s Err (region_refusals s p a) (leaving (Ok (region_at s.machine p (slot_at s p a)).start) s)

-- the list of regions, in list order
unfoldable pub regions : State → ℕ → After Listed
regions s p = guarded s not_listed (process_refusals s p) (leaving (listing (starts_of s.machine p (order_of s.machine p))) s)

-- ---- faults

unfoldable pub fault : State → ℕ → ℕ → Bool → Try
fault s p a w = guarded s Err (region_refusals s p a) (handle_fault s p (slot_at s p a) (a / 4096) w)

-- keeps what it did before the refusing page
unfoldable pub populate : State → ℕ → ℕ → ℕ → Bool → Try
populate s p a len w = guarded s Err (populate_refusals s p a len) (core_populate s p a len w)

-- eager populate: the Rust's populate_eager_copies; keeps what it did before the refusing page
unfoldable pub eager : State → ℕ → Try
eager s p = guarded s Err (process_refusals s p) (core_populate_eager_copies s p)

-- ---- clones

unfoldable pub clone_region : State → ℕ → ℕ → ℕ → Try
clone_region s p a q = guarded s Err (clone_region_refusals s p a q) (core_clone_region s p (slot_at s p a) q)

-- keeps what it did before the refusing region
unfoldable pub clone : State → ℕ → ℕ → Try
clone s p q = guarded s Err (clone_process_refusals s p q) (core_clone s p q)

-- ---- protection, pins

unfoldable pub protect : State → ℕ → ℕ → ℕ → Try
protect s p a flags = guarded s Err (protect_refusals s p a flags) (fine (with_machine s (set_protection s.machine p (slot_at s p a) flags)))

unfoldable pub pin : State → ℕ → ℕ → Try
pin s p a = guarded s Err (pin_refusals s p a) (fine (with_machine s (pin_region s.machine p (slot_at s p a))))

-- until its last unpin (RULES M2)
unfoldable pub unpin : State → ℕ → ℕ → Try
unpin s p a = guarded s Err (unpin_refusals s p a) (fine (with_machine s (unpin_region s.machine p (unpin_slot s p a))))

-- ---- loads and stores

unfoldable pub load : State → ℕ → ℕ → After (Result ℕ Refusal)
load s p a = guarded s Err (access_refusals s p a false) (leaving (Ok (loaded s p a)) s)

unfoldable pub store : State → ℕ → ℕ → ℕ → Try
store s p a b = guarded s Err (access_refusals s p a true) (fine (stored s p a b))
