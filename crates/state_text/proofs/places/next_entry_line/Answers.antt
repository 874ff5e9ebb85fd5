-- `places::next_entry_line` meets its contract: a row that was found is a row of the table.
use Rattle.std.proofs.Common.{sym, ◌∙◌, arith}
use Rattle.model.specs.Layout.{machine}
use Rattle.lookup.specs.LookupsLaws.{entries_length}
use Rattle.lookup.specs.NextEntryLaws.{next_found}
use Rattle.state_text.proofs.places.next_entry_line.Goals as goal

pub entry_at-entry-requires-clause-i_bound : goal.entry_at-entry-requires-clause-i_bound
entry_at-entry-requires-clause-i_bound c =
    let words = c.args.words.now in
    let f = next_found (machine words).entries c.args.cursor.row c.args.cursor.page _ (sym c.next_entry.ensures ∙ c.in-Some.is) in
    omega (arith, f.0, entries_length words)
