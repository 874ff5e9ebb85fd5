-- `region_at` reads the row: row i of the table.
use mathlib.Core.Path.{sym}
use Rattle.laws.specs.RowsLaws.{rows_at}
use Rattle.model.specs.Layout.{machine, region_row}
use Rattle.model.specs.Machine.{no_region}
use Rattle.rows.proofs.slots.region_at.Goals as goal

pub returns : goal.returns
unfolding machine region_row
returns c = sym (rows_at (region_row c.args.words.now) 512 _ no_region c.requires.i_bound)
