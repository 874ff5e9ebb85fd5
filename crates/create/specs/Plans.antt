-- What creation plans: the first refusal, or the spot, the run and the slot that the searches find.
use Rattle.std.specs.Prelude.{◌≡◌, Bool, ◌&&◌, not, cond, List, [], ◌∷◌, ℕ, Option, Some, None, Result, Ok, Err, ⊤}
use Rattle.address.specs.declared.PhysFrame.{PhysFrame}
use Rattle.answers.specs.declared.Refusal.{Refusal}
use Rattle.answers.specs.declared.Refusal.TheVariants.{OutOfMemory, TableFull}
use Rattle.model.specs.declared.Place.{Place}
use Rattle.model.specs.declared.Region.{Region}
use Rattle.model.specs.Machine.{Machine}
use Rattle.model.specs.Lookup.{is_found, row_found, pages_for, free_slot}
use Rattle.model.specs.Backing.{lowest_run}
use Rattle.model.specs.Answers.{first_of}
use Rattle.model.specs.Create.{round_up, spot, spot_refusal, run_needed, create_refusals}
use Rattle.backing.specs.BackingSteps.{found_frame}
use Rattle.create.specs.declared.plan.Plan.{Plan}

-- the run of a region that is made with a range
abbrev pub run_for : Machine → Bool → Region → Option ℕ
run_for m eager r = cond (run_needed eager r) (lowest_run m (pages_for r.size)) None

-- the tests of the searches
unfoldable pub search_refusals : Machine → ℕ → Place → Bool → Region → List (Bool × Refusal)
search_refusals m p place eager r =
    (not (is_found (spot m p place (round_up r.size))), spot_refusal place)
    ∷ (run_needed eager r && not (is_found (lowest_run m (pages_for r.size))), OutOfMemory) ∷ (not (is_found (free_slot m p)), TableFull) ∷ []

-- a frame's row among the backings, as the frame
abbrev pub frame_found : Option ℕ → Option PhysFrame
frame_found (Some f) = Some (record { 0 = f })
frame_found None = None

abbrev pub plan_for : Option ℕ → Option ℕ → Option ℕ → Plan
plan_for start run slot = record { start = record { 0 = row_found start }; slot = row_found slot; run = frame_found run }

-- what was found where no test refuses
abbrev pub unless_refused : Result ⊤ Refusal → Plan → Result Plan Refusal
unless_refused (Ok tt) plan = Ok plan
unless_refused (Err q) plan = Err q

abbrev pub found_plan : Machine → ℕ → Place → Bool → Region → Plan
found_plan m p place eager r = plan_for (spot m p place (round_up r.size)) (run_for m eager r) (free_slot m p)

unfoldable pub searched : Machine → ℕ → Place → Bool → Region → Result Plan Refusal
searched m p place eager r = unless_refused (first_of (search_refusals m p place eager r)) (found_plan m p place eager r)

unfoldable pub planned : Machine → ℕ → Place → Bool → Region → Result Plan Refusal
planned m p place eager r = unless_refused (first_of (create_refusals m p place eager r)) (found_plan m p place eager r)

-- a plan for a region: its slot is free, and its run, if any, the lowest that fits
pub record PlanFits (m : Machine) (p : ℕ) (r : Region) (plan : Plan) : Type 0 where
  pub slot : free_slot m p ≡ Some plan.slot
  pub run : (f : ℕ) → found_frame plan.run ≡ Some f → lowest_run m (pages_for r.size) ≡ Some f
