-- `population_of`: Eager where the number is not 0.
use mathlib.Core.Path.{ap, sym}
use mathlib.Core.Bool.{Bool, not}
use borrow.Author.Tests.{eq-eqb, ne_eqb}
use Rattle.machine_c.proofs.population_of.Goals as goal

pub returns-then-eager-eq0 : goal.returns-then-eager-eq0
returns-then-eager-eq0 c = sym (ap (λ (b : Bool). not b) (eq-eqb c.args.eager 0 c.if-eager-eq0.true))

pub returns : goal.returns
returns c = sym (ap (λ (b : Bool). not b) (ne_eqb c.args.eager 0 c.if-eager-eq0.false))
