-- `hold_range`: one holder more of the range, or there is none.
use Rattle.model.specs.Layout.{machine}
use Rattle.clone_share.specs.ShareIntoLaws.{range_held, range_none}
use Rattle.clone_share.proofs.hold_range.Goals as goal

pub returns-then-region-ne1 : goal.returns-then-region-ne1
returns-then-region-ne1 c =
    let from = c.args in
    range_none (machine from.words.now) from.region c.if-region-ne1.true

pub returns : goal.returns
returns c =
    let from = c.args in
    range_held (machine from.words.now) from.region c.if-region-ne1.false _ c.hold.ensures
