-- `visit_step`: past the last page, a gap, or a page.
use Rattle.populate.specs.PopulateWalkLaws.{at_start, found_fits, page_sound, step_past, step_gap, step_page}
use borrow.Author.Rules.{rules}
use Rattle.populate.proofs.visit_step.Goals as goal

pub returns-then-last-at : goal.returns-then-last-at
returns-then-last-at c =
    step_past c.args.process c.args.last.0 c.args.write c.args.at c.requires.left_nonzero c.requires.done_value _ c.requires.files_value c.if-last-at.true _ c.end.ensures

pub returns-in_default : goal.returns-in_default
returns-in_default c =
    step_gap c.args.process c.args.last.0 c.args.write c.args.at c.requires.left_nonzero c.requires.done_value _ c.requires.files_value c.if-last-at.false _ (at_start _ _ c.args.at.page.0 _ _ c.start_address.ensures c.if-last-at.false c.requires.last_bound _ c.region_for.ensures) c.in_default.is _ c.next_region.ensures

pub populate_page-done-requires : goal.populate_page-done-requires
populate_page-done-requires c = record { words_len = search rules; fault_fits = found_fits _ _ _ c.requires.files_value _ _ c.args.at.page.0 _ (at_start _ _ c.args.at.page.0 _ _ c.start_address.ensures c.if-last-at.false c.requires.last_bound _ c.region_for.ensures) c.in-Some.is }

pub returns : goal.returns
returns c =
    let here = (at_start _ _ c.args.at.page.0 _ _ c.start_address.ensures c.if-last-at.false c.requires.last_bound _ c.region_for.ensures) in
    let slot = c.in-Some.is in
    let does = c.populate_page-done.ensures in
    step_page c.args.process c.args.last.0 c.args.write c.args.at c.requires.left_nonzero c.requires.done_value _ c.requires.files_value c.if-last-at.false _ here _ slot _ _ does (page_sound _ _ _ _ _ c.args.at.page.0 _ (found_fits _ _ _ c.requires.files_value _ _ c.args.at.page.0 _ here slot) _ _ _ does) _ c.after_page.ensures
