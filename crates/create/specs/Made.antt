-- What making a planned region leaves: a run's frames zeroed and claimed, the row put last in the list.
use Rattle.std.specs.Prelude.{◌≡◌, true, List, ℕ, ◌+◌, ◌*◌, ◌≤◌, ◌<◌, Option, Some, None}
use Rattle.model.specs.declared.Region.{Region}
use Rattle.model.specs.Machine.{Machine, State, with_machine}
use Rattle.model.specs.Lookup.{pages_for}
use Rattle.model.specs.Backing.{zero_frames}
use Rattle.model.specs.Create.{placed_at, add_region, with_run}
use Rattle.model.specs.SoundTest.{soundb}
use Rattle.rows.specs.LentMemory.{state_of}
use Rattle.backing.specs.BackingSteps.{claimed, found_frame}
use Rattle.create.specs.declared.plan.Plan.{Plan}

-- a row with its start and a range
abbrev pub with_range : Region → ℕ → ℕ → ℕ → Region
with_range r start ranged range =
    record { kind = r.kind; start = record { 0 = start }; size = r.size; flags = r.flags; fork = r.fork; per_thread = r.per_thread; pins = 0; file = r.file; offset = r.offset; length = r.length; ranged = ranged; range = record { 0 = range } }

-- ---- the run

-- a run has rows and bytes
abbrev pub RunFits : Option ℕ → ℕ → ℕ → Type 0
RunFits None n size = Unit {0}
RunFits (Some f) n size = (f < 256) × (f * 4096 + n * 4096 ≤ size)

unfoldable pub run_claimed : Machine → Option ℕ → ℕ → Machine
run_claimed m None n = m
run_claimed m (Some f) n = claimed m f n

unfoldable pub run_zeroed : List ℕ → Option ℕ → ℕ → List ℕ
run_zeroed l None n = l
run_zeroed l (Some f) n = zero_frames f n l

-- ---- the region

-- what a plan makes of a state
unfoldable pub made : State → ℕ → Region → Plan → State
made s p r plan = let held = with_run s (found_frame plan.run) (pages_for r.size) in with_machine held (add_region held.machine p (placed_at r plan.start.0 (found_frame plan.run)))

-- what making leaves of lent memory: on a sound machine, what the plan makes of it
abbrev pub Makes : ℕ → Region → Plan → (words frames words' frames' : List ℕ) → Type 0
Makes p r plan words frames words' frames' = (files : List ℕ) → soundb (state_of words frames files) ≡ true → state_of words' frames' files ≡ made (state_of words frames files) p r plan
