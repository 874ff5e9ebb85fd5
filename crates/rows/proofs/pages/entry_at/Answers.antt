-- `entry_at` reads the row: row i of the table.
use mathlib.Core.Path.{sym}
use Rattle.laws.specs.RowsLaws.{rows_at}
use Rattle.model.specs.Layout.{machine, entry_row}
use Rattle.model.specs.Machine.{no_entry}
use Rattle.rows.proofs.pages.entry_at.Goals as goal

pub returns : goal.returns
unfolding machine entry_row
returns c = sym (rows_at (entry_row c.args.words.now) 512 _ no_entry c.requires.i_bound)
