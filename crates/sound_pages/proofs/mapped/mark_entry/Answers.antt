-- `mark_entry` goes on past an entry that stands in no row, refuses one that does not allow its mapping, and marks the row of any other.
use mathlib.Core.Path.{sym, ◌∙◌}
use native.Mathlib.Omega.{arith}
use Rattle.sound_pages.specs.MappedTestsLaws.{owner_row}
use Rattle.sound_pages.specs.MappedEntriesLaws.{row_low, mark_other, mark_none, mark_misfit, mark_row}
use Rattle.sound_pages.proofs.mapped.mark_entry.Goals as goal

pub returns-then-not-is_of : goal.returns-then-not-is_of
returns-then-not-is_of c = λ laid seen. mark_other c.args.words.now laid c.args.process c.requires.process_bound c.args.i c.requires.i_bound c.args.marks.now seen _ c.entry_at-entry.ensures (sym c.is_of.ensures ∙ c.if-not-is_of.true) _

pub returns-in_default : goal.returns-in_default
returns-in_default c = λ laid seen. mark_none c.args.words.now laid c.args.process c.requires.process_bound c.args.i c.requires.i_bound c.args.marks.now seen _ c.entry_at-entry.ensures _ c.row_near.ensures.row_of c.in_default.is _

pub row_at-mapping-requires : goal.row_at-mapping-requires
row_at-mapping-requires c = record { words_len = c.requires.words_len; process_bound = c.requires.process_bound; i_bound = row_low _ _ c.in-Some.is c.row_near.ensures.result_bound }

pub entry_allows-requires : goal.entry_allows-requires
entry_allows-requires c = let the = owner_row c.args.process c.entry_at-entry.result c.requires.process_bound (sym c.is_of.ensures ∙ c.if-not-is_of.false) in record { words_len = c.requires.words_len; le_owner = the.0; owner_bound = the.1 }

pub returns-then-not-entry_allows : goal.returns-then-not-entry_allows
returns-then-not-entry_allows c = λ laid seen. mark_misfit c.args.words.now laid c.args.process c.requires.process_bound c.args.i c.requires.i_bound c.args.marks.now seen _ c.entry_at-entry.ensures _ c.row_near.ensures.row_of (sym c.is_of.ensures ∙ c.if-not-is_of.false) _ c.in-Some.is _ c.row_at-mapping.ensures (sym c.entry_allows.ensures ∙ c.if-not-entry_allows.true)

pub bounds-marks-row : goal.bounds-marks-row
bounds-marks-row c = let low = row_low _ _ c.in-Some.is c.row_near.ensures.result_bound in omega arith

pub returns : goal.returns
returns c = λ laid seen. mark_row c.args.words.now laid c.args.process c.requires.process_bound c.args.i c.requires.i_bound c.args.marks.now seen _ c.entry_at-entry.ensures _ c.row_near.ensures.row_of (sym c.is_of.ensures ∙ c.if-not-is_of.false) _ c.in-Some.is _ c.row_at-mapping.ensures (sym c.entry_allows.ensures ∙ c.if-not-entry_allows.false) c.requires.marks_len _
