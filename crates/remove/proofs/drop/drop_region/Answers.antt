-- `drop_region` drops the entries, then the slot.
use Rattle.model.specs.Layout.{machine}
use Rattle.lookup.specs.LookupsLaws.{regions_length}
use Rattle.remove.specs.SlotDroppedLaws.{region_drops}
use native.Mathlib.Omega.{arith}
use Rattle.remove.proofs.drop.drop_region.Goals as goal

pub returns : goal.returns
returns c = region_drops (machine c.args.words.now) c.args.process c.args.slot _ c.drop_entries.ensures (rw regions_length (omega arith)) _ c.drop_slot.ensures
