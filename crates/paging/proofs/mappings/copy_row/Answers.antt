-- `copy_row` puts what it reads.
use mathlib.Core.Path.{ap, ◌∙◌}
use lib.ListN.{set}
use Rattle.model.specs.declared.Mapping.{Mapping}
use Rattle.model.specs.Layout.{machine}
use Rattle.paging.specs.ProcessRows.{rows_of, with_rows}
use Rattle.paging.proofs.mappings.copy_row.Goals as goal

pub returns : goal.returns
returns c =
    let given = c.args in
    let m = machine given.words.now in
    let p = given.process in
    c.put_row.ensures ∙ ap (λ (x : Mapping). with_rows m p (set (rows_of m p) given.to x)) c.row_at-row.ensures
