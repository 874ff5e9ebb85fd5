-- The theorem from the empty machine on: whatever memory is lent, what start and any calls after it leave is sound.
use Rattle.std.specs.Prelude.{◌≡◌, List, ℕ, Ok}
use Rattle.model.specs.declared.File.{File}
use Rattle.model.specs.Machine.{State}
use Rattle.model.specs.Calls as calls
use Rattle.model.specs.Run.{Call, run}
use Rattle.model.specs.Sound.{Sound}
use Rattle.model.specs.Layout.{machine}
use Rattle.model.specs.EmptyLaws.{start_sound}
use Rattle.keeping.specs.CallsKept.{run_kept}

-- RULES D3, from an empty machine, after any sequence of calls, refused ones included: s is any words read as a machine, any
-- frames and any file bytes, sound or not. Once start has answered Ok on it, R1 to R6 hold after every list of calls, the empty one too.
pub reached : (s : State) (files : List File) → (calls.start s files).answer ≡ Ok tt → (l : List Call) → Sound (run l (calls.start s files).state)
reached s files started l = run_kept l (calls.start s files).state (start_sound s files started)

-- the same of lent memory: words read as a machine (model: Layout), whatever they are, with frames and file bytes
pub reached_lent : (words frames bytes : List ℕ) (files : List File)
    → (calls.start (record { machine = machine words; frames = frames; bytes = bytes }) files).answer ≡ Ok tt → (l : List Call)
    → Sound (run l (calls.start (record { machine = machine words; frames = frames; bytes = bytes }) files).state)
reached_lent words frames bytes files = reached (record { machine = machine words; frames = frames; bytes = bytes }) files
