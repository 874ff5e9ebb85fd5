-- `by_entry` is entry_held.
use Rattle.sound_frames.specs.HeldLaws.{is_entry_held}
use Rattle.sound_frames.proofs.held.by_entry.Goals as goal

pub returns : goal.returns
returns c = record { value = is_entry_held c.args.e _ c.place_of-frame.ensures.value; frame_bound = c.place_of-frame.ensures.upper_bound }
