-- `translate` reads the row that is found.
use mathlib.Core.Path.{sym, ◌∙◌}
use Rattle.model.specs.Layout.{machine}
use Rattle.model.specs.Machine.{mapped_of}
use Rattle.lookup.specs.LookupsLaws.{mapped_length}
use Rattle.paging.specs.ProcessRowsLaws.{mapped_row, mapped_most}
use Rattle.paging.specs.PlaceLaws.{row_inside, translate_found, translate_missing}
use borrow.Author.Rules.{rules}
use Rattle.paging.proofs.search.translate.Goals as goal

pub returns-in_err-at : goal.returns-in_err-at
returns-in_err-at c =
    let given = c.args in
    c.from_residual.ensures ∙ translate_missing (mapped_of (machine given.words.now) given.process) given.page.0 (sym c.in_err-at.was ∙ c.row_for.ensures)

pub row_at-requires : goal.row_at-requires
row_at-requires c =
    let given = c.args in
    let w = given.words.now in
    let p = given.process in
    let inside = row_inside (mapped_of (machine w) p) given.page.0 c.in_ok-at.at (sym c.in_ok-at.was ∙ c.row_for.ensures) in
    let most = mapped_most (machine w) p c.requires.process_bound (mapped_length w) in record { words_len = search rules; process_bound = search rules; i_bound = search rules }

pub returns : goal.returns
returns c =
    let given = c.args in
    let m = machine given.words.now in
    let p = given.process in
    let at = c.in_ok-at.at in
    let found = sym c.in_ok-at.was ∙ c.row_for.ensures in
    translate_found (mapped_of m p) given.page.0 at found _ (c.row_at.ensures ∙ mapped_row m p at (row_inside (mapped_of m p) given.page.0 at found))
