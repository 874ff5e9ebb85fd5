-- `process_at` reads the row: row i of the table.
use mathlib.Core.Path.{sym}
use Rattle.laws.specs.RowsLaws.{rows_at}
use Rattle.model.specs.Layout.{machine, process_row}
use Rattle.model.specs.Machine.{no_process}
use Rattle.rows.proofs.processes.process_at.Goals as goal

pub returns : goal.returns
unfolding machine process_row
returns c = sym (rows_at (process_row c.args.words.now) 8 _ no_process c.requires.i_bound)
