-- `sums::sum_of` meets its contract. The invariant: what is left gives the same sum.
use Rattle.std.proofs.Common.{◌≡◌, ◌^◌, ◌<◌, drop}
use Rattle.state_text.specs.Sum.{sum_from}
use Rattle.state_text.proofs.sums.sum_of.Given as goal

abbrev pub invariant-loop-byte : goal.invariant-loop-byte
invariant-loop-byte l = record {
  fits : l.sum < 2 ^ 32;
  same : sum_from l.sum (drop l.byte-index l.bytes) ≡ sum_from 0 l.bytes;
}
