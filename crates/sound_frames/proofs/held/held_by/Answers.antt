-- `held_by` reads a holder's row: an entry's, or a region slot's.
use Rattle.sound_frames.specs.HeldLaws.{held_entry, held_range}
use Rattle.sound_frames.proofs.held.held_by.Goals as goal

pub returns-then-k-lt-ENTRIES : goal.returns-then-k-lt-ENTRIES
returns-then-k-lt-ENTRIES c = record { value = held_entry _ _ _ c.if-k-lt-ENTRIES.true _ c.entry_at-e.ensures c.by_entry.ensures.value; frame_bound = c.by_entry.ensures.frame_bound }

pub returns : goal.returns
returns c = record { value = held_range _ _ _ c.if-k-lt-ENTRIES.false _ c.region_at-r.ensures c.by_range.ensures.value; frame_bound = c.by_range.ensures.frame_bound }
