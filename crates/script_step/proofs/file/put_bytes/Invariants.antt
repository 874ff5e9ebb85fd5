-- `file::put_bytes` meets its contract. The invariant: so many of the bytes are put.
use mathlib.Core.Path.{◌≡◌}
use Prim.Native.Nat.{◌/◌}
use lib.ListN.{length}
use Rattle.frames.specs.PutBytesLaws.{Puts}
use Rattle.script_step.specs.FileStep.{bytes_of}
use Rattle.script_step.proofs.file.put_bytes.Given as goal

abbrev pub invariant-loop-i : goal.invariant-loop-i
invariant-loop-i l = (l.n ≡ length l.digits / 2) × Puts l.initial.files l.at (bytes_of l.digits) (length l.digits / 2) l.i l.files
