-- `remove_region` unmaps and detaches, and drops what is not pinned.
use Rattle.model.specs.Layout.{machine}
use Rattle.lookup.specs.LookupsLaws.{processes_length}
use Rattle.remove.specs.RemovedLaws.{pinned_stays, unpinned_drops}
use Rattle.remove.proofs.region.remove_region.Goals as goal

pub returns-then-pins-gt0 : goal.returns-then-pins-gt0
returns-then-pins-gt0 c = pinned_stays (machine c.args.words.now) c.args.process c.args.slot (rw processes_length c.requires.process_bound) _ c.region_in-region.ensures _ c.unmap_from.ensures _ c.detach.ensures c.if-pins-gt0.true

pub returns : goal.returns
returns c = unpinned_drops (machine c.args.words.now) c.args.process c.args.slot (rw processes_length c.requires.process_bound) _ c.region_in-region.ensures _ c.unmap_from.ensures _ c.detach.ensures c.if-pins-gt0.false _ c.drop_region.ensures
