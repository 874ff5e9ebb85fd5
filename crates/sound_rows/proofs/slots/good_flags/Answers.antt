-- `good_flags` is good_flags.
use mathlib.Core.Path.{◌∙◌}
use Rattle.sound_rows.specs.SlotRowLaws.{good_checked}
use Rattle.sound_rows.proofs.slots.good_flags.Goals as goal

pub returns : goal.returns
returns c = c.is_some.ensures ∙ good_checked c.args.flags.0 _ c.from_bits.ensures
