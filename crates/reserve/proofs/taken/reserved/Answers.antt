-- `reserved` tells whether a region is in the way.
use Rattle.model.specs.Layout.{machine}
use Rattle.lookup.specs.LookupsLaws.{some_found}
use Rattle.reserve.specs.InTheWayLaws.{reserved_empty, reserved_found}
use borrow.Author.Tests.{eq-eqb}
use mathlib.Core.Path.{◌∙◌}
use Rattle.reserve.proofs.taken.reserved.Goals as goal

pub returns-then-len-ne0 : goal.returns-then-len-ne0
returns-then-len-ne0 c = c.is_some.ensures ∙ some_found _ ∙ reserved_found (machine c.args.words.now) c.args.process c.args.start c.args.len c.if-len-ne0.true _ c.first_over.ensures

pub returns-else-len-ne0 : goal.returns-else-len-ne0
returns-else-len-ne0 c = rw (eq-eqb c.args.len 0 c.if-len-ne0.false) (reserved_empty (machine c.args.words.now) c.args.process c.args.start c.args.len c.if-len-ne0.false)
