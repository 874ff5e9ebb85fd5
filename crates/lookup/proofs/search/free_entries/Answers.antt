-- The answers for `free_entries`.
use Rattle.model.specs.Layout.{machine}
use Rattle.model.specs.Machine.{no_entry}
use Rattle.model.specs.Lookup.{free_entries}
use Rattle.laws.specs.LoopLaws.{counted_first, counted_more, counted_all}
use Rattle.lookup.specs.LookupsLaws.{unowned, entries_length}
use Rattle.lookup.proofs.search.free_entries.Goals as goal

pub loop-i-init : goal.loop-i-init
loop-i-init c = let w = c.args.words.now in counted_first unowned (machine w).entries 512 (entries_length w)

pub loop-i-preserved : goal.loop-i-preserved
loop-i-preserved c = let w = c.args.words.now in counted_more unowned (machine w).entries 512 (entries_length w) _ _ c.loop-i.invariant c.loop-i-test.true no_entry _ c.entry_at-e.ensures _ c.one_if_zero-n.ensures.value

pub returns : goal.returns
unfolding free_entries
returns c = let w = c.args.words.now in counted_all unowned (machine w).entries 512 (entries_length w) _ _ c.loop-i.invariant c.loop-i-test.false
