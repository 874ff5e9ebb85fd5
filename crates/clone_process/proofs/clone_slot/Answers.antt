-- `clone_slot`: a per-thread region is passed, another cloned.
use Rattle.clone_process.specs.CloneEachLaws.{slot_passed, slot_cloned}
use Rattle.clone_process.proofs.clone_slot.Goals as goal

pub returns-then-region-ne0 : goal.returns-then-region-ne0
returns-then-region-ne0 c =
    let from = c.args in
    slot_passed from.words.now from.frames.now from.process from.slot from.target _ c.region_in-region.ensures c.if-region-ne0.true

pub returns : goal.returns
returns c =
    let from = c.args in
    slot_cloned from.words.now from.frames.now from.process from.slot from.target _ c.region_in-region.ensures c.if-region-ne0.false _ _ _
    c.clone_into.ensures
