-- `number::read_digits` meets its contract. The invariant: what is left to read gives the same number, and decides whether all are digits.
use Rattle.std.proofs.Common.{◌≡◌, ◌^◌, ◌<◌, drop}
use Rattle.text.specs.Numeral.{digitsb, value_from}
use Rattle.text.proofs.number.read_digits.Given as goal

abbrev pub invariant-loop-byte : goal.invariant-loop-byte
invariant-loop-byte l = record {
  fits : l.value < 2 ^ 64;
  same : value_from l.base l.value (drop l.byte-index l.digits) ≡ value_from l.base 0 l.digits;
  left : digitsb l.base (drop l.byte-index l.digits) ≡ digitsb l.base l.digits;
}
