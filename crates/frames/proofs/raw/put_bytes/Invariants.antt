-- `put_bytes` meets its contract. The invariant: so many of the bytes are put.
use lib.ListN.{take, drop}
use Rattle.frames.specs.PutBytesLaws.{Puts}
use Rattle.frames.proofs.raw.put_bytes.Given as goal

abbrev pub invariant-loop-k : goal.invariant-loop-k
invariant-loop-k l = Puts l.initial.to l.at (take l.count (drop l.start l.from)) l.count l.k l.to
