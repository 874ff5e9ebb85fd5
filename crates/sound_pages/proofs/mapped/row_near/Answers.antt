-- `row_near` finds the row of a page: the near one if the page stands there, else the one that the search finds.
use Rattle.sound_pages.specs.MappedEntriesLaws.{near_row, searched_row}
use Rattle.sound_pages.proofs.mapped.row_near.Goals as goal

pub returns-then-stands_at : goal.returns-then-stands_at
returns-then-stands_at c = let a = near_row c.args.words.now c.args.process c.requires.process_bound c.args.page.0 _ _ c.stands_at.ensures c.if-stands_at.true in record { result_bound = a.0; row_of = λ r. a.1 }

pub returns : goal.returns
returns c = let the = searched_row c.args.words.now c.args.process c.requires.process_bound c.args.page.0 _ c.row_for.ensures in record { result_bound = the.0; row_of = the.1 }
