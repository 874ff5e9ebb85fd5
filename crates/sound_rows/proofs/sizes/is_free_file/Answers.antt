-- `is_free_file` is free_file: `|` and sum are 0 alike.
use mathlib.Core.List.{[], ◌∷◌}
use Rattle.sound_rows.specs.ZerosLaws.{or_from, sum_from, words_zero}
use Rattle.sound_rows.proofs.sizes.is_free_file.Goals as goal

pub returns : goal.returns
unfolding or_from sum_from
returns c = let r = c.args.row in words_zero r.readable (r.offset ∷ r.len ∷ [])
