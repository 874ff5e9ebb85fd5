-- The answers for `counted`.
use mathlib.Core.Path.{◌∙◌}
use Rattle.model.specs.Layout.{machine}
use Rattle.model.specs.Machine.{no_backing}
use Rattle.laws.specs.LoopLaws.{every_first, every_fails, every_more, every_all}
use Rattle.lookup.specs.LookupsLaws.{backings_length}
use Rattle.sound_frames.specs.TallyLaws.{held_in, held_rows_are, tallied_test}
use Rattle.sound_frames.proofs.holders.counted.Goals as goal

pub loop-f-init : goal.loop-f-init
loop-f-init c = let m = machine c.args.words.now in every_first (held_in m) m.backings 256 (backings_length _)

pub returns-then-not-is_held : goal.returns-then-not-is_held
returns-then-not-is_held c = let m = machine c.args.words.now in every_fails (held_in m) m.backings 256 (backings_length _) _ c.loop-f.invariant c.loop-f-test.true no_backing _ c.backing_at-b.ensures (tallied_test m c.tally-counts.result c.tally-counts.ensures.tallied c.loop-f.f c.loop-f-test.true c.backing_at-b.result c.is_held.result _ c.is_held.ensures c.if-not-is_held.true) ∙ held_rows_are m

pub loop-f-preserved : goal.loop-f-preserved
loop-f-preserved c = let m = machine c.args.words.now in every_more (held_in m) m.backings 256 (backings_length _) _ c.loop-f.invariant c.loop-f-test.true no_backing _ c.backing_at-b.ensures (tallied_test m c.tally-counts.result c.tally-counts.ensures.tallied c.loop-f.f c.loop-f-test.true c.backing_at-b.result c.is_held.result _ c.is_held.ensures c.if-not-is_held.false)

pub returns : goal.returns
returns c = let m = machine c.args.words.now in every_all (held_in m) m.backings 256 (backings_length _) _ c.loop-f.invariant c.loop-f-test.false ∙ held_rows_are m
