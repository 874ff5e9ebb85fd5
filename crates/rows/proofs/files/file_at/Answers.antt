-- `file_at` reads the row: row i of the table.
use mathlib.Core.Path.{sym}
use Rattle.laws.specs.RowsLaws.{rows_at}
use Rattle.model.specs.Layout.{machine, file_row}
use Rattle.model.specs.Machine.{no_file}
use Rattle.rows.proofs.files.file_at.Goals as goal

pub returns : goal.returns
unfolding machine file_row
returns c = sym (rows_at (file_row c.args.words.now) 8 _ no_file c.requires.i_bound)
