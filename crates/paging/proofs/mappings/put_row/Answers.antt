-- `put_row` puts one row of a process's part of the table.
use mathlib.Core.Path.{◌∙◌}
use native.Mathlib.Omega.{arith}
use Rattle.model.specs.Layout.{machine}
use Rattle.lookup.specs.LookupsLaws.{mapped_length}
use Rattle.paging.specs.ProcessRowsLaws.{set_row}
use Rattle.paging.proofs.mappings.put_row.Goals as goal

pub returns : goal.returns
returns c =
    let given = c.args in
    let w = given.words.now in
    c.put_mapping.ensures ∙ set_row (machine w) given.process given.i given.row (omega arith) (omega arith) (mapped_length w)
