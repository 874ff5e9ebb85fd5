-- Which refusals each call gives before its core, in the order of their numbers: of several the lowest (RULES O4).
-- BadTable stands before all of them (Calls: guarded); what faults, carves and clones refuse further is in Fault, Carve and Clone.
use Rattle.std.specs.Prelude.{Bool, ◌&&◌, ◌||◌, not, List, [], ◌∷◌, ℕ, ◌+◌, ◌/◌, ◌%◌, length, eqb, ltb, leb, Option}
use Rattle.address.specs.Canonical.{user}
use Rattle.address.specs.Flags.{good_flags}
use Rattle.address.specs.Pages.{aligned}
use Rattle.answers.specs.declared.Refusal.{Refusal}
use Rattle.answers.specs.declared.Refusal.TheVariants.{BadTable, NoProcess, BadAddress, BadRange, BadFlags, NoRegion, UnsupportedRegion, InUse, TableFull, Denied}
use Rattle.model.specs.declared.File.{File}
use Rattle.laws.specs.Lists.{all}
use Rattle.model.specs.Machine.{Machine, State, region_at, user_end, most_pins, file_rows, frame_rows}
use Rattle.model.specs.Lookup.{is_open, is_shared, is_pinned, is_found, row_found, first_row, region_for, any_region_for}
use Rattle.model.specs.Populate.{upper_last}
use Rattle.model.specs.Carve.{bad_bounds}
use Rattle.model.specs.Remove.{pin_stands}
use Rattle.model.specs.Access.{granted, page_at}

-- the refusals that several calls begin with
abbrev pub closedb : State → ℕ → Bool × Refusal
closedb s p = (not (is_open s.machine p), NoProcess)

abbrev pub bad_address : ℕ → Bool × Refusal
bad_address a = (not (user a), BadAddress)

-- calls name a region by process and any address in it (RULES C1)
abbrev pub no_region_at : State → ℕ → ℕ → Bool × Refusal
no_region_at s p a = (not (is_found (region_for s.machine p a)), NoRegion)

abbrev pub slot_at : State → ℕ → ℕ → ℕ
slot_at s p a = row_found (region_for s.machine p a)

-- ---- the machine itself

-- a frame length that does not fit is BadTable (RULES W5), and so are files that do not fit their bytes or the table
unfoldable pub bad_lengths : State → List File → Bool
bad_lengths s files =
    not (eqb (length s.frames % 4096) 0) || (ltb frame_rows (length s.frames / 4096) || (ltb file_rows (length files)
    || not (all (λ f. leb f.readable 1 && leb (f.offset + f.len) (length s.bytes)) files)))

unfoldable pub start_refusals : State → List File → List (Bool × Refusal)
start_refusals s files = (bad_lengths s files, BadTable) ∷ []

-- ---- processes

abbrev pub closed_row : Machine → Option ℕ
closed_row m = first_row (λ q. eqb q.opened 0) m.processes 0

unfoldable pub open_refusals : State → ℕ → ℕ → List (Bool × Refusal)
open_refusals s a size = bad_address a ∷ (not (aligned a) || (not (aligned size) || ltb user_end (a + size)), BadRange) ∷ (not (is_found (closed_row s.machine)), TableFull) ∷ []

unfoldable pub close_refusals : State → ℕ → List (Bool × Refusal)
close_refusals s p = closedb s p ∷ (pin_stands s.machine p, InUse) ∷ []

-- ---- calls that name a process alone, or a region by an address in it (creation: Create.createRefusals)

-- clear, covers, the list of regions, eager populate
unfoldable pub process_refusals : State → ℕ → List (Bool × Refusal)
process_refusals s p = closedb s p ∷ []

-- remove, the region at an address, fault
unfoldable pub region_refusals : State → ℕ → ℕ → List (Bool × Refusal)
region_refusals s p a = closedb s p ∷ bad_address a ∷ no_region_at s p a ∷ []

unfoldable pub carve_refusals : State → ℕ → ℕ → ℕ → List (Bool × Refusal)
carve_refusals s p a e = closedb s p ∷ (bad_bounds a e, BadRange) ∷ []

unfoldable pub populate_refusals : State → ℕ → ℕ → ℕ → List (Bool × Refusal)
populate_refusals s p a len = closedb s p ∷ bad_address a ∷ (upper_last a len, BadRange) ∷ []

-- ---- clones: source and target are open

unfoldable pub clone_region_refusals : State → ℕ → ℕ → ℕ → List (Bool × Refusal)
clone_region_refusals s p a q = closedb s p ∷ closedb s q ∷ bad_address a ∷ no_region_at s p a ∷ []

unfoldable pub clone_process_refusals : State → ℕ → ℕ → List (Bool × Refusal)
clone_process_refusals s p q = closedb s p ∷ closedb s q ∷ []

-- ---- protection, pins

unfoldable pub protect_refusals : State → ℕ → ℕ → ℕ → List (Bool × Refusal)
protect_refusals s p a flags = closedb s p ∷ bad_address a ∷ (not (good_flags flags), BadFlags) ∷ no_region_at s p a ∷ (is_shared (region_at s.machine p (slot_at s p a)), UnsupportedRegion) ∷ []

-- a pin count is at most 65,535 (RULES N9); TableFull where a pin is wanted and none is left (E21)
unfoldable pub pin_refusals : State → ℕ → ℕ → List (Bool × Refusal)
pin_refusals s p a = closedb s p ∷ bad_address a ∷ no_region_at s p a ∷ (leb most_pins (region_at s.machine p (slot_at s p a)).pins, TableFull) ∷ []

-- unpin finds a detached region too (RULES C1); NoRegion where there is no pin (E7)
abbrev pub unpin_slot : State → ℕ → ℕ → ℕ
unpin_slot s p a = row_found (any_region_for s.machine p a)

unfoldable pub unpin_refusals : State → ℕ → ℕ → List (Bool × Refusal)
unpin_refusals s p a = closedb s p ∷ bad_address a ∷ (not (is_found (any_region_for s.machine p a)) || not (is_pinned (region_at s.machine p (unpin_slot s p a))), NoRegion) ∷ []

-- ---- loads and stores: else Denied, never NoRegion (RULES L3)

unfoldable pub access_refusals : State → ℕ → ℕ → Bool → List (Bool × Refusal)
access_refusals s p a w = closedb s p ∷ bad_address a ∷ (not (granted (page_at s.machine p a) w), Denied) ∷ []
