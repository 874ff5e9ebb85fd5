-- `is_pinned_if_unmarked` is pinned_if_unmarked.
use Rattle.sound_lists.specs.ListOrderLaws.{unused_passes, marked_passes, unmarked_pinned}
use Rattle.sound_lists.proofs.lists.is_pinned_if_unmarked.Goals as goal

pub returns-then-region-eq-FREE : goal.returns-then-region-eq-FREE
returns-then-region-eq-FREE c = unused_passes c.args.mark c.args.region c.if-region-eq-FREE.true

pub returns-then-mark-ne0 : goal.returns-then-mark-ne0
returns-then-mark-ne0 c = marked_passes c.args.mark c.args.region c.if-region-eq-FREE.false c.if-mark-ne0.true

pub returns : goal.returns
returns c = unmarked_pinned c.args.mark c.args.region c.if-region-eq-FREE.false c.if-mark-ne0.false
