-- `is_over` tells whether a slot's region is in the way, by where it starts.
use borrow.Author.Tests.{eq-eqb}
use Rattle.reserve.specs.InTheWayLaws.{over_unused, over_below, over_empty, over_above}
use Rattle.reserve.proofs.taken.is_over.Goals as goal

pub returns-then-region-eq-FREE : goal.returns-then-region-eq-FREE
returns-then-region-eq-FREE c = over_unused c.args.region c.args.start c.args.len c.if-region-eq-FREE.true

pub returns-then-region-start : goal.returns-then-region-start
returns-then-region-start c = over_below c.args.region c.args.start c.args.len c.if-region-eq-FREE.false _ c.pages_for.ensures c.if-region-start.true

pub returns-then-region-ne0 : goal.returns-then-region-ne0
returns-then-region-ne0 c = over_above c.args.region c.args.start c.args.len c.if-region-eq-FREE.false c.if-region-start.false c.requires c.if-region-ne0.true

pub returns-else-region-ne0 : goal.returns-else-region-ne0
returns-else-region-ne0 c = rw (eq-eqb c.args.region.size 0 c.if-region-ne0.false) (over_empty c.args.region c.args.start c.args.len c.if-region-eq-FREE.false c.if-region-start.false c.if-region-ne0.false)
