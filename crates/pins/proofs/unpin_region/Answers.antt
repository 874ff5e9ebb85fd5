-- `unpin_region`: the region is dropped, or its row put with one pin less.
use Rattle.model.specs.Layout.{machine}
use Rattle.pins.specs.UnpinsLaws.{unpin_ends, unpin_stays}
use Rattle.pins.proofs.unpin_region.Goals as goal

pub returns-then-ends : goal.returns-then-ends
returns-then-ends c =
    let from = c.args in
    unpin_ends (machine from.words.now) from.process from.slot _ c.region_in-region.ensures _ c.ends.ensures c.if-ends.true _ c.drop_region.ensures

pub returns : goal.returns
returns c =
    let from = c.args in
    unpin_stays (machine from.words.now) from.process from.slot _ c.region_in-region.ensures _ c.ends.ensures c.if-ends.false _ c.saturating_sub.ensures _ c.with_pins-row.ensures _ c.put_region.ensures
