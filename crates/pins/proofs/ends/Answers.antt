-- `ends`: more pins than one, or whether the region is detached.
use Rattle.model.specs.Layout.{machine}
use Rattle.pins.specs.UnpinsLaws.{more_pins, last_pin}
use Rattle.pins.proofs.ends.Goals as goal

pub returns-then-pins-ne1 : goal.returns-then-pins-ne1
returns-then-pins-ne1 c =
    let from = c.args in
    more_pins (machine from.words.now) from.process from.slot from.pins c.if-pins-ne1.true

pub returns : goal.returns
returns c =
    let from = c.args in
    last_pin (machine from.words.now) from.process from.slot from.pins _ c.if-pins-ne1.false c.is_attached.ensures
