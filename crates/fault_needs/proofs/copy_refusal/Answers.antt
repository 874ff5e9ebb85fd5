-- `copy_refusal`: one law for each test that decides.
use Rattle.fault_needs.specs.WayNeedsLaws.{copy_frame, copy_room, copied_entry, copy_fine}
use Rattle.fault_needs.proofs.copy_refusal.Goals as goal

pub returns-then-free-eq0 : goal.returns-then-free-eq0
returns-then-free-eq0 c = λ f. copy_frame _ _ c.pool-free.ensures _ _ _ f c.if-free-eq0.true

pub returns-then-unmapped_full : goal.returns-then-unmapped_full
returns-then-unmapped_full c = λ f. copy_room _ _ c.pool-free.ensures _ _ _ f c.if-free-eq0.false _ c.unmapped_full.ensures c.if-unmapped_full.true

pub returns-then-entry_full : goal.returns-then-entry_full
returns-then-entry_full c = λ f. copied_entry _ _ c.pool-free.ensures _ _ _ f c.if-free-eq0.false _ c.unmapped_full.ensures c.if-unmapped_full.false _ c.entry_full.ensures c.if-entry_full.true

pub returns : goal.returns
returns c = λ f. copy_fine _ _ c.pool-free.ensures _ _ _ f c.if-free-eq0.false _ c.unmapped_full.ensures c.if-unmapped_full.false _ c.entry_full.ensures c.if-entry_full.false
