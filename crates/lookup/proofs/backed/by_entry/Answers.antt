-- `by_entry` is by_entry of the row that entry_for finds.
use Rattle.std.specs.Prelude.{Option, ℕ}
use mathlib.Core.Path.{ap, sym, ◌∙◌}
use Rattle.model.specs.Layout.{machine}
use Rattle.lookup.specs.Backed.{by_entry}
use Rattle.lookup.specs.BackedLaws.{entry_row, entry_backed}
use Rattle.lookup.proofs.backed.by_entry.Goals as goal

pub returns-in_default : goal.returns-in_default
returns-in_default c = ap (λ (f : Option ℕ). by_entry (machine c.args.words.now) f) (sym c.in_default.is ∙ c.entry_for.ensures)

pub entry_at-requires : goal.entry_at-requires
entry_at-requires c = record { words_len = c.requires.words_len; i_bound = entry_row c.args.words.now c.args.row c.args.page.0 _ (sym c.in-Some.is ∙ c.entry_for.ensures) }

pub returns : goal.returns
returns c = entry_backed (machine c.args.words.now) _ _ (sym c.in-Some.is ∙ c.entry_for.ensures) _ c.entry_at.ensures _ c.backing_from.ensures
