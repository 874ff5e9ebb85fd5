-- `give_entries` goes through the entries. The invariant: the first i are given.
use Rattle.split.specs.GivenEntriesLaws.{Given}
use Rattle.split.proofs.give.give_entries.Given as goal

abbrev pub invariant-loop-i : goal.invariant-loop-i
invariant-loop-i l = Given l.initial.words l.row l.at l.new l.words l.i
