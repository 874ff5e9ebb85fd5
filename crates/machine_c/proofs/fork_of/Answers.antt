-- `fork_of`: CopyEager where the number is not 0.
use mathlib.Core.Path.{ap, sym}
use mathlib.Core.Bool.{Bool, not}
use borrow.Author.Tests.{eq-eqb, ne_eqb}
use Rattle.machine_c.proofs.fork_of.Goals as goal

pub returns-then-copy-eq0 : goal.returns-then-copy-eq0
returns-then-copy-eq0 c = sym (ap (λ (b : Bool). not b) (eq-eqb c.args.copy 0 c.if-copy-eq0.true))

pub returns : goal.returns
returns c = sym (ap (λ (b : Bool). not b) (ne_eqb c.args.copy 0 c.if-copy-eq0.false))
