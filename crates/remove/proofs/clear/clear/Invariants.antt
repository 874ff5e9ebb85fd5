-- `clear` removes the first region as often as there are regions. The invariant: what is left to remove comes to the same.
use Rattle.std.proofs.Common.{◌-◌}
use Rattle.remove.specs.ClearedLaws.{Clearing}
use Rattle.remove.proofs.clear.clear.Given as goal

abbrev pub invariant-loop : goal.invariant-loop
invariant-loop l = Clearing l.initial.words l.process l.words (l.count - l.counter)
