-- `frame_rows` is how many frames have a row.
use Rattle.backing.specs.BackingWayLaws.{rows_min}
use Rattle.backing.proofs.free.frame_rows.Goals as goal

pub returns-clause-value : goal.returns-clause-value
returns-clause-value c = rows_min c.args.words.now _ c.frame_count.ensures _ c.min.ensures
