-- `backing_at` reads the row: row i of the table.
use mathlib.Core.Path.{sym}
use Rattle.laws.specs.RowsLaws.{rows_at}
use Rattle.model.specs.Layout.{machine, backing_row}
use Rattle.model.specs.Machine.{no_backing}
use Rattle.rows.proofs.backings.backing_at.Goals as goal

pub returns : goal.returns
unfolding machine backing_row
returns c = sym (rows_at (backing_row c.args.words.now) 256 _ no_backing c.requires.i_bound)
