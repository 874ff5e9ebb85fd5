-- The answers for `segments_rise`.
use mathlib.Core.Path.{sym, ◌∙◌}
use mathlib.Core.Bool.{false≢true}
use Rattle.model.specs.Layout.{machine}
use Rattle.model.specs.Lookup.{regions_of}
use Rattle.lookup.specs.LookupsLaws.{slots_length, slot_at}
use Rattle.sound_lists.specs.AscendingLaws.{ascends_first, ascends_free, ascends_used, ascends_all}
use Rattle.sound_lists.proofs.apart.segments_rise.Goals as goal

pub loop-i-init : goal.loop-i-init
loop-i-init c = ascends_first (regions_of (machine c.args.words.now) c.args.process) 0 0

pub loop-i-preserved-then-region-eq-FREE : goal.loop-i-preserved-then-region-eq-FREE
loop-i-preserved-then-region-eq-FREE c = let a = c.args in let w = a.words.now in ascends_free (regions_of (machine w) a.process) c.loop-i.start c.loop-i.size c.loop-i.i c.loop-i.invariant c.loop-i-test.true c.region_at-region.result (slot_at w a.process _ _ c.loop-i-test.true c.region_at-region.ensures) c.if-region-eq-FREE.true

pub returns-then-not-ends_by : goal.returns-then-not-ends_by
returns-then-not-ends_by c = λ e. absurd (false≢true e)

pub loop-i-preserved : goal.loop-i-preserved
loop-i-preserved c = let a = c.args in let w = a.words.now in ascends_used (regions_of (machine w) a.process) c.loop-i.start c.loop-i.size c.loop-i.i c.loop-i.invariant c.loop-i-test.true c.region_at-region.result (slot_at w a.process _ _ c.loop-i-test.true c.region_at-region.ensures) (sym c.ends_by.ensures ∙ c.if-not-ends_by.false)

pub returns : goal.returns
returns c = λ e. let a = c.args in ascends_all (regions_of (machine a.words.now) a.process) c.loop-i.start c.loop-i.size c.loop-i.i (slots_length a.words.now a.process c.requires.process_bound) c.loop-i.invariant c.loop-i-test.false
