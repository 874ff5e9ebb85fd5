-- `drop_slot` lets the range go and frees the slot.
use Rattle.model.specs.Layout.{machine}
use Rattle.lookup.specs.LookupsLaws.{regions_length}
use Rattle.remove.specs.SlotDroppedLaws.{slot_goes}
use Rattle.remove.proofs.drop.drop_slot.Goals as goal

pub returns : goal.returns
returns c = slot_goes (machine c.args.words.now) c.args.row _ c.region_at-region.ensures (rw regions_length c.requires.row_bound) _ c.let_go_range.ensures _ _ c.no_region.ensures c.put_region.ensures
