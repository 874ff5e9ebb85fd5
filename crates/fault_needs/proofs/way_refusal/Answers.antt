-- `way_refusal`: one law for each way.
use Rattle.fault_needs.specs.WayNeedsLaws.{way_refused, way_already, way_restore, way_full, way_room, way_as}
use Rattle.fault_needs.proofs.way_refusal.Goals as goal

pub returns-in-Refuse : goal.returns-in-Refuse
returns-in-Refuse c = way_refused _ _ _ _ _ _ c.in-Refuse.is

pub returns-in-Already : goal.returns-in-Already
returns-in-Already c = way_already _ _ _ _ _ c.in-Already.is

pub returns-in-Restore : goal.returns-in-Restore
returns-in-Restore c = way_restore _ _ _ _ _ c.in-Restore.is

pub returns-then-no_room : goal.returns-then-no_room
returns-then-no_room c = way_full _ _ _ _ _ _ _ c.in-Map.is _ c.no_room.ensures c.if-no_room.true

pub returns-else-no_room : goal.returns-else-no_room
returns-else-no_room c = way_room _ _ _ _ _ _ _ c.in-Map.is _ c.no_room.ensures c.if-no_room.false

pub returns-in-Copy : goal.returns-in-Copy
returns-in-Copy c = way_as _ _ _ _ _ _ _ (c.copy_refusal.ensures _) c.in-Copy.is

pub returns-in-Fill : goal.returns-in-Fill
returns-in-Fill c = way_as _ _ _ _ _ _ _ c.fill_refusal.ensures c.in-Fill.is
