-- `place_at`: given or not.
use borrow.Author.Tests.{eq-eqb, ne_eqb}
use Rattle.machine_c.specs.Numbers.{place_of}
use Rattle.machine_c.proofs.place_at.Goals as goal

pub returns-then-given-eq0 : goal.returns-then-given-eq0
unfolding place_of
returns-then-given-eq0 c = rw (eq-eqb _ 0 c.if-given-eq0.true)

pub returns : goal.returns
unfolding place_of
returns c = rw (ne_eqb _ 0 c.if-given-eq0.false)
