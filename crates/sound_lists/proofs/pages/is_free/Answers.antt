-- `is_free` is free_mapping.
use Rattle.sound_lists.specs.PageOrderLaws.{paged_row, framed_row, unless_flagged}
use Rattle.sound_lists.proofs.pages.is_free.Goals as goal

pub returns-then-row-ne0 : goal.returns-then-row-ne0
returns-then-row-ne0 c = paged_row c.args.row c.if-row-ne0.true

pub returns-then-row-ne0-2 : goal.returns-then-row-ne0-2
returns-then-row-ne0-2 c = framed_row c.args.row c.if-row-ne0-2.true

pub returns : goal.returns
returns c = unless_flagged c.args.row c.if-row-ne0.false c.if-row-ne0-2.false
