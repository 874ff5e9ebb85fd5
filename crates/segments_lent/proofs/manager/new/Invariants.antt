-- `new` makes an empty manager, or changes nothing. The invariant: the words up to i are the arena and zeros.
use Rattle.segments_lent.specs.LentLoopsLaws.{Cleared}
use Rattle.segments_lent.proofs.manager.new.Given as goal

abbrev pub invariant-loop-i : goal.invariant-loop-i
invariant-loop-i l = Cleared l.initial.words l.words l.i
