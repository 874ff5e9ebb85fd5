-- `zero_words`. The invariant: every word below i is 0. The measure is what is left.
use Rattle.process.specs.StartLaws.{ZeroBelow}
use Rattle.process.proofs.start.zero_words.Given as goal

abbrev pub invariant-loop-i : goal.invariant-loop-i
invariant-loop-i l = ZeroBelow l.i l.words
