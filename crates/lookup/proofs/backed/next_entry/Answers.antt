-- The answers for `next_entry`.
use Prim.Native.Nat.{◌+◌}
use native.Mathlib.Omega.{arith}
use Rattle.model.specs.Layout.{machine}
use Rattle.lookup.specs.LookupsLaws.{entries_length}
use Rattle.lookup.specs.NextEntry.{next_entry}
use Rattle.lookup.specs.NextEntryLaws.{seen_none, seen_row, seen_more, seen_all}
use Rattle.lookup.proofs.backed.next_entry.Goals as goal

pub loop-i-init : goal.loop-i-init
loop-i-init c = seen_none (machine c.args.words.now).entries (c.args.row + 1) c.args.page.0 512 (entries_length c.args.words.now)

pub nearer_row-found-requires : goal.nearer_row-found-requires
nearer_row-found-requires c = record { words_len = c.requires.words_len; i_bound = let seen = c.loop-i.invariant.0 in omega arith; later_bound = seen_row (machine c.args.words.now).entries (c.args.row + 1) c.args.page.0 512 (entries_length c.args.words.now) _ _ c.loop-i.invariant (omega arith) }

pub loop-i-preserved : goal.loop-i-preserved
loop-i-preserved c = seen_more (machine c.args.words.now).entries (c.args.row + 1) c.args.page.0 512 (entries_length c.args.words.now) _ _ c.loop-i.invariant c.loop-i-test.true _ c.nearer_row-found.ensures

pub returns : goal.returns
unfolding next_entry
returns c = seen_all (machine c.args.words.now).entries (c.args.row + 1) c.args.page.0 512 (entries_length c.args.words.now) _ _ c.loop-i.invariant c.loop-i-test.false
