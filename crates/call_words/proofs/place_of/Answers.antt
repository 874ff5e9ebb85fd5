-- `place_of` meets its contract, by its flag.
use borrow.Author.Tests.{eq-eqb, ne_eqb}
use Rattle.call_words.specs.CallOf.{place_of}
use Rattle.call_words.proofs.place_of.Goals as goal

pub returns-then-flag-eq1 : goal.returns-then-flag-eq1
unfolding place_of
returns-then-flag-eq1 c = rw (eq-eqb _ _ c.if-flag-eq1.true)

pub returns : goal.returns
unfolding place_of
returns c = rw (ne_eqb _ _ c.if-flag-eq1.false)
