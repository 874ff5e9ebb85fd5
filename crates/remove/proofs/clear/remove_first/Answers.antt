-- `remove_first` removes the region in the slot that stands first.
use Rattle.remove.specs.ClearedLaws.{first_goes, first_missing}
use Rattle.remove.proofs.clear.remove_first.Goals as goal

pub returns-then-slot-lt-SLOTS : goal.returns-then-slot-lt-SLOTS
returns-then-slot-lt-SLOTS c = first_goes c.args.words.now c.args.process c.requires.process_bound _ c.order_at-slot.ensures _ c.remove_region.ensures

pub returns : goal.returns
returns c = first_missing c.args.words.now c.args.process c.requires.process_bound _ c.order_at-slot.ensures c.if-slot-lt-SLOTS.false
