-- The lowest free start of a process's arena: what its rows must fit, and an answer as the model's.
use Rattle.std.specs.Prelude.{◌≡◌, true, Option, Some, None, ℕ}
use Rattle.address.specs.declared.VirtAddr.{VirtAddr}
use Rattle.model.specs.Machine.{Machine}
use Rattle.model.specs.SoundTest.{each_process, process_fits}

-- every process's row fits: the test of R6
abbrev pub ProcessesFit : Machine → Type 0
ProcessesFit m = each_process m (process_fits m) ≡ true

-- a start that was found, as the model gives it
abbrev pub found_spot : Option VirtAddr → Option ℕ
found_spot (Some a) = Some a.0
found_spot None = None
