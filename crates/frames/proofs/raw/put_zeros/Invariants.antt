-- `put_zeros` meets its contract. The invariant: so many of the zeros are put.
use lib.ListN.{replicate}
use Rattle.frames.specs.PutBytesLaws.{Puts}
use Rattle.frames.proofs.raw.put_zeros.Given as goal

abbrev pub invariant-loop-i : goal.invariant-loop-i
invariant-loop-i l = Puts l.initial.to l.at (replicate l.count 0) l.count l.i l.to
