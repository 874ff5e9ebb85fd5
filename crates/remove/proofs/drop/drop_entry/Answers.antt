-- `drop_entry` lets the entry's frame go and frees it, or leaves an entry of another.
use Rattle.model.specs.Layout.{machine}
use Rattle.lookup.specs.LookupsLaws.{entries_length}
use Rattle.remove.specs.DroppedLaws.{entry_goes, entry_stays}
use Rattle.remove.proofs.drop.drop_entry.Goals as goal

pub returns-then-e-row : goal.returns-then-e-row
returns-then-e-row c = entry_goes (machine c.args.words.now) c.args.row c.args.i _ c.entry_at-e.ensures (rw entries_length c.requires.i_bound) c.if-e-row.true _ c.let_go.ensures _ _ c.no_entry.ensures c.put_entry.ensures

pub returns : goal.returns
returns c = entry_stays (machine c.args.words.now) c.args.row c.args.i _ c.entry_at-e.ensures c.if-e-row.false
