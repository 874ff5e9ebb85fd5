-- `fill_refusal`: one law for each test that decides.
use Rattle.fault_needs.specs.WayNeedsLaws.{fill_frame, fill_read, fill_room, fill_entry, fill_fine}
use Rattle.fault_needs.proofs.fill_refusal.Goals as goal

pub returns-then-free-eq0 : goal.returns-then-free-eq0
returns-then-free-eq0 c = fill_frame _ _ c.pool-free.ensures _ _ _ c.if-free-eq0.true

pub returns-then-read_fails : goal.returns-then-read_fails
returns-then-read_fails c = fill_read _ _ c.pool-free.ensures _ _ _ c.if-free-eq0.false _ c.region_in.ensures _ c.read_fails.ensures c.if-read_fails.true

pub returns-then-no_room : goal.returns-then-no_room
returns-then-no_room c = fill_room _ _ c.pool-free.ensures _ _ _ c.if-free-eq0.false _ c.region_in.ensures _ c.read_fails.ensures c.if-read_fails.false _ c.no_room.ensures c.if-no_room.true

pub returns-then-no_entry_left : goal.returns-then-no_entry_left
returns-then-no_entry_left c = fill_entry _ _ c.pool-free.ensures _ _ _ c.if-free-eq0.false _ c.region_in.ensures _ c.read_fails.ensures c.if-read_fails.false _ c.no_room.ensures c.if-no_room.false _ c.no_entry_left.ensures c.if-no_entry_left.true

pub returns : goal.returns
returns c = fill_fine _ _ c.pool-free.ensures _ _ _ c.if-free-eq0.false _ c.region_in.ensures _ c.read_fails.ensures c.if-read_fails.false _ c.no_room.ensures c.if-no_room.false _ c.no_entry_left.ensures c.if-no_entry_left.false
