-- `copy_next`: the next entry, which is there, is copied.
use mathlib.Core.Path.{sym, ◌∙◌}
use native.Mathlib.Omega.{arith}
use Rattle.model.specs.Layout.{machine}
use Rattle.lookup.specs.LookupsLaws.{entries_length}
use Rattle.clone_share.specs.ShareNextLaws.{next_missing, next_small}
use Rattle.clone_copy.specs.CopyEntriesLaws.{next_can, next_page, next_copied}
use borrow.Author.Rules.{rules}
use Rattle.clone_copy.proofs.copy_next.Goals as goal

pub returns-in_default : goal.returns-in_default
returns-in_default c = absurd (next_missing _ c.requires.copy_next.found (sym c.next_entry.ensures ∙ c.in_default.is))

pub entry_at-e-requires : goal.entry_at-e-requires
entry_at-e-requires c =
    let from = c.args in
    let low = next_small (machine from.words.now).entries from.src from.page.0 _ (entries_length from.words.now) (sym c.next_entry.ensures ∙ c.in-Some.is) in record { words_len = search rules; i_bound = search rules }

pub copy_entry-requires : goal.copy_entry-requires
copy_entry-requires c =
    let from = c.args in
    let can = next_can (machine from.words.now) _ from.src from.page.0 _ _ (sym c.next_entry.ensures ∙ c.in-Some.is) c.entry_at-e.ensures c.requires.copy_next in record { words_len = c.requires.words_len; row_bound = c.requires.row_bound; can_copy = can }

pub overflow_add-result : goal.overflow_add-result
overflow_add-result c =
    let from = c.args in
    let low = next_page (machine from.words.now) _ from.src from.page.0 _ _ (sym c.next_entry.ensures ∙ c.in-Some.is) c.entry_at-e.ensures c.requires.copy_next in
    omega arith

pub returns : goal.returns
returns c =
    let from = c.args in let the = next_copied (machine from.words.now) _ from.src from.page.0 _ _ (sym c.next_entry.ensures ∙ c.in-Some.is) c.entry_at-e.ensures c.requires.copy_next from.row _ c.copy_entry.ensures.words_after _ _ c.copy_entry.ensures.frames_after in record { result_value = the.0; words_after = the.1.0; frames_after = the.1.1 }
