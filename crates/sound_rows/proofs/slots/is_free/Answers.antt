-- `is_free` is free_region: `|` and sum are 0 alike.
use mathlib.Core.List.{[], ◌∷◌}
use Rattle.sound_rows.specs.ZerosLaws.{or_from, sum_from, words_zero}
use Rattle.sound_rows.proofs.slots.is_free.Goals as goal

pub returns : goal.returns
unfolding or_from sum_from
returns c = let r = c.args.region in words_zero r.kind (r.start.0 ∷ r.size ∷ r.flags.0 ∷ r.fork ∷ r.per_thread ∷ r.pins ∷ r.file ∷ r.offset ∷ r.length ∷ r.ranged ∷ r.range.0 ∷ [])
