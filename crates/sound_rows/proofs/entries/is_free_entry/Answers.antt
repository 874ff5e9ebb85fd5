-- `is_free_entry` is free_entry_row: `|` and sum are 0 alike.
use mathlib.Core.List.{[], ◌∷◌}
use Rattle.sound_rows.specs.ZerosLaws.{or_from, sum_from, words_zero}
use Rattle.sound_rows.proofs.entries.is_free_entry.Goals as goal

pub returns : goal.returns
unfolding or_from sum_from
returns c = let r = c.args.entry in words_zero r.owner (r.page.0 ∷ r.frame.0 ∷ [])
