-- `entered` is enteredb.
use mathlib.Core.Path.{ap, ◌∙◌, sym}
use native.Mathlib.Omega.{arith}
use lib.Dec.{eqb}
use Rattle.model.specs.declared.Region.{Region}
use Rattle.model.specs.declared.Backing.{Backing}
use Rattle.model.specs.Layout.{machine}
use Rattle.laws.specs.TestChainLaws.{fails, passes}
use Rattle.sound_rows.specs.EntryRow.{takes_entry}
use Rattle.sound_rows.specs.EntryRowLaws.{entered_by}
use Rattle.sound_rows.proofs.entries.entered.Goals as goal

pub returns-then-not-takes_entry : goal.returns-then-not-takes_entry
returns-then-not-takes_entry c = entered_by (machine c.args.words.now) c.args.entry (omega arith) _ (fails _ (sym (c.takes_entry.ensures ∙ ap (λ (r : Region). takes_entry r c.args.entry.page.0) c.region_at-region.ensures) ∙ c.if-not-takes_entry.true))

pub returns : goal.returns
returns c = entered_by (machine c.args.words.now) c.args.entry (omega arith) _ (passes (sym (c.takes_entry.ensures ∙ ap (λ (r : Region). takes_entry r c.args.entry.page.0) c.region_at-region.ensures) ∙ c.if-not-takes_entry.false) (ap (λ (b : Backing). eqb b.len 1) c.backing_from-backing.ensures))
