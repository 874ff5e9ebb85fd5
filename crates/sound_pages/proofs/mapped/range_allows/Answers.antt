-- `range_allows` is range_allows.
use mathlib.Core.Path.{◌∙◌}
use native.Mathlib.Omega.{arith}
use Rattle.model.specs.Layout.{machine}
use Rattle.sound_pages.specs.MappedTestsLaws.{unranged, past_range, off_range, in_range}
use Rattle.sound_pages.proofs.mapped.range_allows.Goals as goal

pub returns-then-region-ne1 : goal.returns-then-region-ne1
returns-then-region-ne1 c = unranged (machine c.args.words.now) c.args.region c.args.mapping c.if-region-ne1.true

pub returns-then-backing-offset : goal.returns-then-backing-offset
returns-then-backing-offset c = past_range (machine c.args.words.now) c.args.region c.args.mapping c.if-region-ne1.false _ c.backing_from-backing.ensures _ c.pages_past-offset.ensures c.if-backing-offset.true

pub returns-then-mapping-region : goal.returns-then-mapping-region
returns-then-mapping-region c = let f = c.if-mapping-region.true in off_range (machine c.args.words.now) c.args.region c.args.mapping c.if-region-ne1.false _ c.backing_from-backing.ensures _ c.pages_past-offset.ensures c.if-backing-offset.false (λ e. omega arith)

pub returns-then-mapping-region-2 : goal.returns-then-mapping-region-2
returns-then-mapping-region-2 c = let f = c.if-mapping-region.false in let d = c.if-mapping-region-2.true in off_range (machine c.args.words.now) c.args.region c.args.mapping c.if-region-ne1.false _ c.backing_from-backing.ensures _ c.pages_past-offset.ensures c.if-backing-offset.false (λ e. d (omega arith))

pub returns : goal.returns
returns c = c.flags_fit.ensures ∙ in_range (machine c.args.words.now) c.args.region c.args.mapping c.if-region-ne1.false _ c.backing_from-backing.ensures _ c.pages_past-offset.ensures c.if-backing-offset.false (omega arith)
