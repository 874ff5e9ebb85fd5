-- `page_flags` counts the holders of what backs the page.
use Rattle.model.specs.Layout.{machine}
use Rattle.protect.specs.ProtectsLaws.{flags_shared, flags_whole}
use Rattle.protect.proofs.page_flags.Goals as goal

pub returns-then-holders_by-gt1 : goal.returns-then-holders_by-gt1
returns-then-holders_by-gt1 c =
    let from = c.args in
    flags_shared (machine from.words.now) from.process from.slot from.flags.0 from.page.0 _ c.backing_of-backed.ensures _ c.holders_by.ensures c.if-holders_by-gt1.true _ c.read_only.ensures

pub returns : goal.returns
returns c =
    let from = c.args in
    flags_whole (machine from.words.now) from.process from.slot from.flags.0 from.page.0 _ c.backing_of-backed.ensures _ c.holders_by.ensures c.if-holders_by-gt1.false
