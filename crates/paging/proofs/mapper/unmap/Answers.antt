-- `unmap` takes out the row that is found.
use mathlib.Core.Path.{sym, ◌∙◌}
use native.Mathlib.Omega.{arith}
use Rattle.model.specs.Layout.{machine}
use Rattle.model.specs.Machine.{mapped_of}
use Rattle.paging.specs.ProcessRowsLaws.{mapped_row}
use Rattle.paging.specs.PlaceLaws.{row_inside, translate_found, translate_missing}
use Rattle.paging.specs.MapperStepLaws.{unmap_found, unmap_no_row}
use borrow.Author.Rules.{rules}
use Rattle.paging.proofs.mapper.unmap.Goals as goal

pub returns-in_err-at : goal.returns-in_err-at
returns-in_err-at c =
    let given = c.args in
    let m = machine given.words.now in
    let p = given.process in
    let page = given.page.0 in
    let missing = sym c.in_err-at.was ∙ c.row_for.ensures in record { value = c.from_residual.ensures ∙ translate_missing (mapped_of m p) page missing; words_after = unmap_no_row m p page missing }

pub row_at-row-requires : goal.row_at-row-requires
row_at-row-requires c =
    let given = c.args in
    let inside = row_inside (mapped_of (machine given.words.now) given.process) given.page.0 c.in_ok-at.at (sym c.in_ok-at.was ∙ c.row_for.ensures) in record { words_len = search rules; process_bound = search rules; i_bound = search rules }

pub overflow_add-at : goal.overflow_add-at
overflow_add-at c =
    let given = c.args in
    let inside = row_inside (mapped_of (machine given.words.now) given.process) given.page.0 c.in_ok-at.at (sym c.in_ok-at.was ∙ c.row_for.ensures) in
    omega arith

pub take_out-requires : goal.take_out-requires
take_out-requires c =
    let given = c.args in
    let inside = row_inside (mapped_of (machine given.words.now) given.process) given.page.0 c.in_ok-at.at (sym c.in_ok-at.was ∙ c.row_for.ensures) in record { words_len = search rules; process_bound = search rules; from_le_to = search rules; to_le_n = search rules; n_bound = search rules }

pub returns : goal.returns
returns c =
    let given = c.args in
    let m = machine given.words.now in
    let p = given.process in
    let page = given.page.0 in
    let at = c.in_ok-at.at in
    let found = sym c.in_ok-at.was ∙ c.row_for.ensures in record { value = translate_found (mapped_of m p) page at found _ (c.row_at-row.ensures ∙ mapped_row m p at (row_inside (mapped_of m p) page at found)); words_after = unmap_found m p _ c.mapped_count-n.ensures.value page at _ found c.take_out.ensures }
