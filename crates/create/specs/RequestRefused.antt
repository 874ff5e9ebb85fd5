-- The tests of what was asked for, and which of them refuses.
use Rattle.std.specs.Prelude.{Bool, ◌&&◌, ◌||◌, not, List, [], ◌∷◌, ℕ, leb}
use Rattle.address.specs.Flags.{good_flags}
use Rattle.answers.specs.declared.Refusal.{Refusal}
use Rattle.answers.specs.declared.Refusal.TheVariants.{NoProcess, BadAddress, BadRange, BadFlags, NoFile}
use Rattle.model.specs.declared.Place.{Place}
use Rattle.model.specs.declared.Region.{Region}
use Rattle.model.specs.Machine.{Machine}
use Rattle.model.specs.Lookup.{is_open, is_file, is_shared}
use Rattle.model.specs.Create.{bad_start, bad_place, bad_size}

-- the range, the flags and the file that are asked for
abbrev pub bad_range : Place → Region → Bool
bad_range place r = bad_place place r.size || bad_size r

abbrev pub bad_flags : Region → Bool
bad_flags r = not (is_shared r) && not (good_flags r.flags.0)

abbrev pub file_missing : Machine → Region → Bool
file_missing m r = is_file r && leb m.file_count r.file

-- the tests that need no search
unfoldable pub request_refusals : Machine → ℕ → Place → Region → List (Bool × Refusal)
request_refusals m p place r =
    (not (is_open m p), NoProcess) ∷ (bad_start place, BadAddress) ∷ (bad_range place r, BadRange)
    ∷ (bad_flags r, BadFlags) ∷ (file_missing m r, NoFile) ∷ []
