-- `share_next`: the next entry, which is there, is shared.
use mathlib.Core.Path.{sym, ◌∙◌}
use native.Mathlib.Omega.{arith}
use Rattle.model.specs.Layout.{machine}
use Rattle.lookup.specs.LookupsLaws.{entries_length}
use Rattle.clone_share.specs.ShareNextLaws.{next_missing, next_small, next_can, next_page, next_shared}
use borrow.Author.Rules.{rules}
use Rattle.clone_share.proofs.share_next.Goals as goal

pub returns-in_default : goal.returns-in_default
returns-in_default c = absurd (next_missing _ c.requires.share_next.found (sym c.next_entry.ensures ∙ c.in_default.is))

pub entry_at-e-requires : goal.entry_at-e-requires
entry_at-e-requires c =
    let from = c.args in
    let low = next_small (machine from.words.now).entries from.src from.page.0 _ (entries_length from.words.now) (sym c.next_entry.ensures ∙ c.in-Some.is) in record { words_len = search rules; i_bound = search rules }

pub share_entry-requires : goal.share_entry-requires
share_entry-requires c =
    let from = c.args in
    let can = next_can (machine from.words.now) from.src from.page.0 _ _ (sym c.next_entry.ensures ∙ c.in-Some.is) c.entry_at-e.ensures c.requires.share_next in record { words_len = search rules; row_bound = search rules; can_share = search rules }

pub overflow_add-result : goal.overflow_add-result
overflow_add-result c =
    let from = c.args in
    let low = next_page (machine from.words.now) from.src from.page.0 _ _ (sym c.next_entry.ensures ∙ c.in-Some.is) c.entry_at-e.ensures c.requires.share_next in
    omega arith

pub returns : goal.returns
returns c =
    let from = c.args in let the = next_shared (machine from.words.now) from.src from.page.0 _ _ (sym c.next_entry.ensures ∙ c.in-Some.is) c.entry_at-e.ensures c.requires.share_next from.row _ c.share_entry.ensures in record { result_value = the.0; words_after = the.1 }
