-- The call of a number and its arguments: numbers in the order of model's Run.Call, arguments in the order of the call's own.
use Rattle.std.specs.Prelude.{Bool, ◌&&◌, cond, List, [], ◌∷◌, ℕ, eqb, ltb, get_or, Option, Some, None}
use Rattle.address.specs.declared.VirtAddr.{VirtAddr}
use Rattle.model.specs.declared.Call.{Call}
use Rattle.model.specs.declared.Call.TheVariants as call
use Rattle.model.specs.declared.Place.{Place}
use Rattle.model.specs.declared.Place.TheVariants as place
use Rattle.model.specs.declared.Population.{Population}
use Rattle.model.specs.declared.Population.TheVariants as population
use Rattle.model.specs.declared.ForkPolicy.{ForkPolicy}
use Rattle.model.specs.declared.ForkPolicy.TheVariants as fork

-- ---- arguments

-- the argument at a place, as a number and as an address
abbrev pub arg : List ℕ → ℕ → ℕ
arg args i = get_or args i 0

abbrev pub addr : List ℕ → ℕ → VirtAddr
addr args i = record { 0 = arg args i }

-- a flag is 0 or 1, and set if it is 1
abbrev pub flagb : ℕ → Bool
flagb x = ltb x 2

abbrev pub set : ℕ → Bool
set x = eqb x 1

-- where a region goes: a flag, and the start that counts where the flag is set
unfoldable pub place_of : ℕ → ℕ → Place
place_of flag start = cond (set flag) (place.At (record { 0 = start })) place.Lowest

-- whether it is eager
unfoldable pub population_of : ℕ → Population
population_of flag = cond (set flag) population.Eager population.Lazy

-- whether its pages are copied
unfoldable pub fork_of : ℕ → ForkPolicy
fork_of flag = cond (set flag) fork.CopyEager fork.CopyOnWrite

-- a call whose flags, or whose byte, are none is no call
abbrev pub only : Bool → Call → Option Call
only fits c = cond fits (Some c) None

-- ---- calls

-- the places of flags: 1 where a region goes, 3 eager, 6 copy, 7 per thread
unfoldable pub private_of : List ℕ → Option Call
private_of a =
    only (flagb (arg a 1) && (flagb (arg a 3) && (flagb (arg a 6) && flagb (arg a 7))))
    (call.CreatePrivate (arg a 0) (place_of (arg a 1) (arg a 2)) (population_of (arg a 3)) (arg a 4) (arg a 5) (fork_of (arg a 6)) (set (arg a 7)))

-- 1 where it goes, 5 copy, 6 per thread
unfoldable pub file_of : List ℕ → Option Call
file_of a =
    only (flagb (arg a 1) && (flagb (arg a 5) && (flagb (arg a 6) && flagb 0)))
    (call.CreateFile (arg a 0) (place_of (arg a 1) (arg a 2)) (arg a 3) (arg a 4) (fork_of (arg a 5)) (set (arg a 6)) (arg a 7) (arg a 8) (arg a 9))

-- by number; start, 0, is not among them: it takes the rows of files
abbrev pub calls : List ℕ → List (Option Call)
calls a =
    None
    ∷ Some call.Sound
    ∷ Some (call.Open (addr a 0) (arg a 1))
    ∷ Some (call.Close (arg a 0))
    ∷ private_of a
    ∷ file_of a
    ∷ only (flagb (arg a 1)) (call.CreateShared (arg a 0) (place_of (arg a 1) (arg a 2)) (arg a 3))
    ∷ Some (call.Remove (arg a 0) (addr a 1))
    ∷ Some (call.Clear (arg a 0))
    ∷ Some (call.Carve (arg a 0) (arg a 1) (arg a 2))
    ∷ Some (call.Covers (arg a 0) (arg a 1) (arg a 2))
    ∷ Some (call.Region (arg a 0) (addr a 1))
    ∷ Some (call.Regions (arg a 0))
    ∷ only (flagb (arg a 2)) (call.Fault (arg a 0) (addr a 1) (set (arg a 2)))
    ∷ only (flagb (arg a 3)) (call.Populate (arg a 0) (addr a 1) (arg a 2) (set (arg a 3)))
    ∷ Some (call.Eager (arg a 0))
    ∷ Some (call.CloneRegion (arg a 0) (addr a 1) (arg a 2))
    ∷ Some (call.Clone (arg a 0) (arg a 1))
    ∷ Some (call.Protect (arg a 0) (addr a 1) (arg a 2))
    ∷ Some (call.Pin (arg a 0) (addr a 1))
    ∷ Some (call.Unpin (arg a 0) (addr a 1))
    ∷ Some (call.Load (arg a 0) (addr a 1))
    ∷ only (ltb (arg a 2) 256) (call.Store (arg a 0) (addr a 1) (arg a 2))
    ∷ []

unfoldable pub call_of : ℕ → List ℕ → Option Call
call_of number a = get_or (calls a) number None

-- how many arguments each has, by number
abbrev pub counts : List ℕ
counts = 0 ∷ 0 ∷ 2 ∷ 1 ∷ 8 ∷ 10 ∷ 4 ∷ 2 ∷ 1 ∷ 3 ∷ 3 ∷ 2 ∷ 1 ∷ 3 ∷ 4 ∷ 1 ∷ 3 ∷ 2 ∷ 3 ∷ 2 ∷ 2 ∷ 2 ∷ 3 ∷ []

unfoldable pub count_of : ℕ → ℕ
count_of number = get_or counts number 0
