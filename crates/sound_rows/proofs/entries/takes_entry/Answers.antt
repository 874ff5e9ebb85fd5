-- `takes_entry` is takes_entry.
use mathlib.Core.Path.{ap}
use mathlib.Core.Bool.{not}
use borrow.Author.Tests.{eq-eqb, ne_eqb}
use Rattle.laws.specs.TestChainLaws.{fails, passes}
use Rattle.sound_rows.proofs.entries.takes_entry.Goals as goal

pub returns-then-region-eq-FREE : goal.returns-then-region-eq-FREE
returns-then-region-eq-FREE c = fails _ (ap not (eq-eqb _ 0 c.if-region-eq-FREE.true))

pub returns-then-region-eq-SHARED : goal.returns-then-region-eq-SHARED
returns-then-region-eq-SHARED c = passes (ap not (ne_eqb _ 0 c.if-region-eq-FREE.false)) (fails _ (ap not (eq-eqb _ 3 c.if-region-eq-SHARED.true)))

pub returns : goal.returns
returns c = passes (ap not (ne_eqb _ 0 c.if-region-eq-FREE.false)) (passes (ap not (ne_eqb _ 3 c.if-region-eq-SHARED.false)) c.starts_in.ensures)
