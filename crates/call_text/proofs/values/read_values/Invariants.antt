-- `values::read_values` meets its contract. The invariant: with the operands that are left, the values are the same.
use Rattle.std.proofs.Common.{◌≡◌, drop}
use Rattle.call_text.specs.Values.{values_in}
use Rattle.call_text.proofs.values.read_values.Given as goal

abbrev pub invariant-loop-letter : goal.invariant-loop-letter
invariant-loop-letter l = values_in l.line l.so_far (drop l.letter-index l.form) ≡ values_in l.line l.initial.so_far l.form
