-- `row_at` reads row i of a process's part of the table.
use native.Mathlib.Omega.{arith}
use Rattle.model.specs.Layout.{machine}
use Rattle.paging.specs.ProcessRowsLaws.{row_is}
use Rattle.paging.proofs.search.row_at.Goals as goal

pub returns : goal.returns
returns c = let given = c.args in row_is (machine given.words.now) given.process given.i _ (omega arith) c.mapping_at.ensures
