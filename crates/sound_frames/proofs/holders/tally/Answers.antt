-- `tally` counts entries and ranges.
use native.Mathlib.Omega.{arith}
use Rattle.sound_frames.specs.TallyLaws.{counts_first, counts_all}
use Rattle.sound_frames.proofs.holders.tally.Goals as goal

pub tally_entries-requires : goal.tally_entries-requires
tally_entries-requires c = record { words_len = c.requires; counts = counts_first c.args.words.now }

pub returns : goal.returns
returns c = record { result_len = c.tally_ranges.ensures.sized; tallied = counts_all _ _ _ c.tally_ranges.ensures (omega arith) }
