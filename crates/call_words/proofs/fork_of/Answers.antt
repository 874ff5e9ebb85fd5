-- `fork_of` meets its contract, by its flag.
use borrow.Author.Tests.{eq-eqb, ne_eqb}
use Rattle.call_words.specs.CallOf.{fork_of}
use Rattle.call_words.proofs.fork_of.Goals as goal

pub returns-then-flag-eq1 : goal.returns-then-flag-eq1
unfolding fork_of
returns-then-flag-eq1 c = rw (eq-eqb _ _ c.if-flag-eq1.true)

pub returns : goal.returns
unfolding fork_of
returns c = rw (ne_eqb _ _ c.if-flag-eq1.false)
