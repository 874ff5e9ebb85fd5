-- `row_for` tests the row at the page's place.
use Rattle.model.specs.Layout.{machine}
use Rattle.model.specs.Machine.{mapped_of}
use Rattle.paging.specs.PlaceLaws.{row_found, row_missing}
use Rattle.paging.proofs.search.row_for.Goals as goal

pub returns-then-stands_at : goal.returns-then-stands_at
returns-then-stands_at c =
    let given = c.args in
    row_found (mapped_of (machine given.words.now) given.process) given.page.0 _ c.place-at.ensures.value _ c.stands_at.ensures c.if-stands_at.true

pub returns : goal.returns
returns c =
    let given = c.args in
    row_missing (mapped_of (machine given.words.now) given.process) given.page.0 _ c.place-at.ensures.value _ c.stands_at.ensures c.if-stands_at.false
