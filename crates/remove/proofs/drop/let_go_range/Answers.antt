-- `let_go_range` lets the range go, or there is none.
use Rattle.model.specs.Layout.{machine}
use Rattle.remove.specs.SlotDroppedLaws.{range_goes, range_stays}
use Rattle.remove.proofs.drop.let_go_range.Goals as goal

pub returns-then-region-eq1 : goal.returns-then-region-eq1
returns-then-region-eq1 c = range_goes (machine c.args.words.now) c.args.region _ c.if-region-eq1.true c.let_go.ensures

pub returns : goal.returns
returns c = range_stays (machine c.args.words.now) c.args.region c.if-region-eq1.false
