-- `stands_at` tests row i, if it is in use, for a page.
use mathlib.Core.Path.{ap, ◌∙◌}
use native.Mathlib.Omega.{arith}
use lib.Dec.{eqb}
use borrow.Author.Tests.{le-ltb}
use Rattle.model.specs.declared.Mapping.{Mapping}
use Rattle.model.specs.Layout.{machine}
use Rattle.model.specs.Machine.{mapped_of}
use Rattle.paging.specs.ProcessRowsLaws.{mapped_row}
use Rattle.paging.specs.PlaceLaws.{stands_in, stands_past}
use Rattle.paging.proofs.search.stands_at.Goals as goal

pub returns-then-i-mapped_count : goal.returns-then-i-mapped_count
returns-then-i-mapped_count c =
    let given = c.args in
    let m = machine given.words.now in
    let p = given.process in
    let i = given.i in
    let page = given.page.0 in
    c.eq.ensures ∙ ap (λ (x : Mapping). eqb x.page.0 page) (c.row_at.ensures ∙ mapped_row m p i (omega arith)) ∙ stands_in (mapped_of m p) page i (omega arith)

pub returns-else-i-mapped_count : goal.returns-else-i-mapped_count
returns-else-i-mapped_count c =
    let given = c.args in
    le-ltb _ _ c.if-i-mapped_count.false ∙ stands_past (mapped_of (machine given.words.now) given.process) given.page.0 given.i (omega arith)
