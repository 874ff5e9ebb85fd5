-- `mapping_at` reads the row: row i of the table.
use mathlib.Core.Path.{sym}
use Rattle.laws.specs.RowsLaws.{rows_at}
use Rattle.model.specs.Layout.{machine, mapping_row}
use Rattle.model.specs.Machine.{no_mapping}
use Rattle.rows.proofs.pages.mapping_at.Goals as goal

pub returns : goal.returns
unfolding machine mapping_row
returns c = sym (rows_at (mapping_row c.args.words.now) 1024 _ no_mapping c.requires.i_bound)
