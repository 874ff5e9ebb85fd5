-- `add_entry` puts the entry into the lowest free row; there is one.
use mathlib.Core.Path.{refl, sym, ◌∙◌}
use Rattle.model.specs.Layout.{machine}
use Rattle.regions.specs.EntryAddedLaws.{entry_low, entry_added, entry_none}
use borrow.Author.Rules.{rules}
use Rattle.regions.proofs.add.add_entry.Goals as goal

pub returns-in_default : goal.returns-in_default
returns-in_default c =
    absurd (entry_none (machine c.args.words.now) c.requires.words_value (sym c.in_default.is ∙ c.free_entry.ensures))

pub put_entry-requires : goal.put_entry-requires
put_entry-requires c = let low = entry_low c.args.words.now _ (sym c.in-Some.is ∙ c.free_entry.ensures) in record { words_len = search rules; i_bound = search rules }

pub returns : goal.returns
returns c =
    let from = c.args in
    entry_added (machine from.words.now) from.row from.page.0 from.frame.0 _ (sym c.in-Some.is ∙ c.free_entry.ensures) _ refl _ c.put_entry.ensures
