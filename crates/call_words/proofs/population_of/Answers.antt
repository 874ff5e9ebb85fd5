-- `population_of` meets its contract, by its flag.
use borrow.Author.Tests.{eq-eqb, ne_eqb}
use Rattle.call_words.specs.CallOf.{population_of}
use Rattle.call_words.proofs.population_of.Goals as goal

pub returns-then-flag-eq1 : goal.returns-then-flag-eq1
unfolding population_of
returns-then-flag-eq1 c = rw (eq-eqb _ _ c.if-flag-eq1.true)

pub returns : goal.returns
unfolding population_of
returns c = rw (ne_eqb _ _ c.if-flag-eq1.false)
