-- `main` is safe and ends. The invariant: the session is kept, and the buffers keep their lengths; the turns left fall.
use Rattle.std.proofs.Common.{◌≡◌, length}
use Rattle.script.specs.Session.{Kept, Reads}
use Rattle.script.proofs.main.Given as goal

abbrev pub invariant-loop-turns : goal.invariant-loop-turns
invariant-loop-turns l =
    (16384 ≡ length l.input)
    × (65536 ≡ length l.line)
    × (16384 ≡ length l.out)
    × (11844 ≡ length l.words)
    × (1048576 ≡ length l.frames)
    × (262144 ≡ length l.files)
    × (64 ≡ length l.starts)
    × Kept l.session 65536 16384 1048576 262144 64
    × Reads l.session 16384

abbrev pub decreases-loop-turns : goal.decreases-loop-turns
decreases-loop-turns l = l.turns
