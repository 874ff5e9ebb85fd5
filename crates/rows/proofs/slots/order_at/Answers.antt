-- `order_at` reads the row: row i of the table.
use mathlib.Core.Path.{sym}
use Rattle.laws.specs.RowsLaws.{rows_at}
use Rattle.model.specs.Layout.{machine, order_row}
use Rattle.rows.proofs.slots.order_at.Goals as goal

pub returns : goal.returns
unfolding machine order_row
returns c = sym (rows_at (order_row c.args.words.now) 512 _ 0 c.requires.i_bound)
