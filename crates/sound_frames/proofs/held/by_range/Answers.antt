-- `by_range` is range_held.
use Rattle.sound_frames.specs.HeldLaws.{is_range_held}
use Rattle.sound_frames.proofs.held.by_range.Goals as goal

pub returns : goal.returns
returns c = record { value = is_range_held c.args.region _ c.has_range.ensures _ c.place_of-frame.ensures.value _ c.one_if_shared-shared.ensures _ c.containing_address-page.ensures; frame_bound = c.place_of-frame.ensures.upper_bound }
