-- `re_entry`: a new entry, or the old one with another frame.
use mathlib.Core.Path.{sym, ◌∙◌}
use Rattle.model.specs.Layout.{machine}
use Rattle.lookup.specs.BackedLaws.{entry_row}
use Rattle.fault_own.specs.EnteredLaws.{ready_none, ready_at, entered_none, entered_at}
use borrow.Author.Rules.{rules}
use Rattle.fault_own.proofs.re_entry.Goals as goal

pub add_entry-requires : goal.add_entry-requires
add_entry-requires c = let some = ready_none (machine c.args.words.now) c.args.row c.args.page.0 c.args.frame.0 _ c.entry_for.ensures c.in_default.is c.requires.entry_ready in record { words_len = search rules; row_bound = search rules; words_value = search rules }

pub returns-in_default : goal.returns-in_default
returns-in_default c = entered_none (machine c.args.words.now) c.args.row c.args.page.0 c.args.frame.0 _ c.entry_for.ensures c.in_default.is _ c.add_entry.ensures

pub entry_at-old-requires : goal.entry_at-old-requires
entry_at-old-requires c = let low = entry_row c.args.words.now c.args.row c.args.page.0 _ (sym c.in-Some.is ∙ c.entry_for.ensures) in record { words_len = search rules; i_bound = search rules }

pub release-requires : goal.release-requires
release-requires c = let low = ready_at (machine c.args.words.now) c.args.row c.args.page.0 c.args.frame.0 _ c.entry_for.ensures _ c.in-Some.is c.requires.entry_ready _ c.entry_at-old.ensures in record { words_len = search rules; frame_bound = search rules }

pub put_entry-requires : goal.put_entry-requires
put_entry-requires c = let low = entry_row c.args.words.now c.args.row c.args.page.0 _ (sym c.in-Some.is ∙ c.entry_for.ensures) in record { words_len = search rules; i_bound = search rules }

pub returns : goal.returns
returns c = entered_at (machine c.args.words.now) c.args.row c.args.page.0 c.args.frame.0 _ c.entry_for.ensures _ c.in-Some.is _ c.entry_at-old.ensures _ c.release.ensures _ c.put_entry.ensures
