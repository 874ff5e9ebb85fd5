-- `range_len`: no range, or its backing's length.
use Rattle.model.specs.Layout.{machine}
use Rattle.clone_pages.specs.BackedPagesLaws.{range_none, range_some}
use Rattle.clone_pages.proofs.range_len.Goals as goal

pub returns-then-region-ne1 : goal.returns-then-region-ne1
returns-then-region-ne1 c =
    let from = c.args in
    range_none (machine from.words.now) from.region c.if-region-ne1.true

pub returns : goal.returns
returns c =
    let from = c.args in
    range_some (machine from.words.now) from.region c.if-region-ne1.false _ c.backing_from.ensures
