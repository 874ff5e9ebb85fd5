-- `copy_entry`: the lowest free frame taken, the bytes copied, the entry put.
use mathlib.Core.Path.{ap, sym, ◌∙◌}
use Rattle.model.specs.Layout.{machine}
use Rattle.backing.specs.BackingSteps.{found_frame}
use Rattle.clone_copy.specs.CopyPageLaws.{frame_there, from_inside, new_inside, claim_found, copies_entry, copies_frame}
use borrow.Author.Rules.{rules}
use Rattle.clone_copy.proofs.copy_entry.Goals as goal

pub returns-in_default : goal.returns-in_default
returns-in_default c =
    let from = c.args in
    absurd (frame_there (machine from.words.now) _ from.from.0 c.requires.can_copy (sym c.take_frame.ensures.result_value ∙ ap found_frame c.in_default.is))

pub copy-requires : goal.copy-requires
copy-requires c =
    let from = c.args in record { from_in_bounds = from_inside (machine from.words.now) _ from.from.0 c.requires.can_copy; to_in_bounds = new_inside (machine from.words.now) _ from.from.0 c.requires.can_copy _ (sym c.take_frame.ensures.result_value ∙ ap found_frame c.in-Some.is) }

pub add_entry-requires : goal.add_entry-requires
add_entry-requires c =
    let from = c.args in
    let found = claim_found (machine from.words.now) _ from.from.0 c.requires.can_copy _ (sym c.take_frame.ensures.result_value ∙ ap found_frame c.in-Some.is) _ c.take_frame.ensures.words_after in record { words_len = search rules; row_bound = search rules; words_value = search rules }

pub returns : goal.returns
returns c =
    let from = c.args in record { words_after = copies_entry (machine from.words.now) _ from.from.0 c.requires.can_copy _ (sym c.take_frame.ensures.result_value ∙ ap found_frame c.in-Some.is) _ c.take_frame.ensures.words_after from.row from.page.0 _ c.add_entry.ensures; frames_after = copies_frame (machine from.words.now) _ from.from.0 c.requires.can_copy _ (sym c.take_frame.ensures.result_value ∙ ap found_frame c.in-Some.is) _ _ c.copy.ensures }
