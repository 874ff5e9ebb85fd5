-- `is_free_process` is free_process: `|` and sum are 0 alike.
use mathlib.Core.List.{[], ◌∷◌}
use Rattle.sound_rows.specs.ZerosLaws.{or_from, sum_from, words_zero}
use Rattle.sound_rows.proofs.processes.is_free_process.Goals as goal

pub returns : goal.returns
unfolding or_from sum_from
returns c = let r = c.args.row in words_zero r.opened (r.start.0 ∷ r.size ∷ r.attached ∷ r.mapped ∷ [])
