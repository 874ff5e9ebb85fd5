-- `slot_len` is shared_len, of the region in a slot.
use native.Mathlib.Omega.{arith}
use Rattle.model.specs.Layout.{machine}
use Rattle.regions.specs.SlotPastLaws.{no_row}
use Rattle.regions.specs.CoverLaws.{slot_some, slot_none}
use Rattle.regions.proofs.cover.slot_len.Goals as goal

pub returns-then-slot-process : goal.returns-then-slot-process
returns-then-slot-process c = slot_some (machine c.args.words.now) c.args.process c.args.slot _ c.region_at-region.ensures c.args.start c.args.end _ c.shared_len.ensures

pub returns : goal.returns
returns c = slot_none (machine c.args.words.now) c.args.process c.args.slot (no_row c.args.words.now c.args.process c.args.slot (omega arith)) c.args.start c.args.end
