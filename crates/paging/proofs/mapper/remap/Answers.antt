-- `remap` puts the row that is found with other flags.
use mathlib.Core.Path.{sym, ◌∙◌}
use Rattle.model.specs.Layout.{machine}
use Rattle.model.specs.Machine.{mapped_of}
use Rattle.lookup.specs.LookupsLaws.{mapped_length}
use Rattle.paging.specs.ProcessRowsLaws.{mapped_most}
use Rattle.paging.specs.PlaceLaws.{row_inside}
use Rattle.paging.specs.MapperStepLaws.{remap_found, remap_no_row}
use borrow.Author.Rules.{rules}
use Rattle.paging.proofs.mapper.remap.Goals as goal

pub returns-in_default : goal.returns-in_default
returns-in_default c =
    let given = c.args in let the = remap_no_row (machine given.words.now) given.process given.page.0 given.flags.0 (sym c.in_default.is ∙ c.row_for.ensures) in record { value = the.0; words_after = the.1 }

pub row_at-row-requires : goal.row_at-row-requires
row_at-row-requires c =
    let given = c.args in
    let w = given.words.now in
    let p = given.process in
    let inside = row_inside (mapped_of (machine w) p) given.page.0 c.in-Some.at (sym c.in-Some.is ∙ c.row_for.ensures) in
    let most = mapped_most (machine w) p c.requires.process_bound (mapped_length w) in record { words_len = search rules; process_bound = search rules; i_bound = search rules }

pub put_row-requires : goal.put_row-requires
put_row-requires c =
    let given = c.args in
    let w = given.words.now in
    let p = given.process in
    let inside = row_inside (mapped_of (machine w) p) given.page.0 c.in-Some.at (sym c.in-Some.is ∙ c.row_for.ensures) in
    let most = mapped_most (machine w) p c.requires.process_bound (mapped_length w) in record { words_len = search rules; process_bound = search rules; i_bound = search rules }

pub returns : goal.returns
returns c =
    let given = c.args in let the = remap_found (machine given.words.now) given.process given.page.0 given.flags.0 c.in-Some.at _ _ (sym c.in-Some.is ∙ c.row_for.ensures) c.row_at-row.ensures c.put_row.ensures in record { value = the.0; words_after = the.1 }
