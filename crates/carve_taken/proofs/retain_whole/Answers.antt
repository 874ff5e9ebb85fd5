-- The answers for `retain_whole`.
use Rattle.model.specs.Layout.{machine}
use Rattle.regions.specs.DetachedLaws.{retain_first, retain_more, retain_all}
use Rattle.carve_taken.specs.TakenOut.{whole}
use Rattle.carve_taken.specs.TakenOutLaws.{same_test}
use Rattle.carve_taken.proofs.retain_whole.Goals as goal

pub loop-i-init : goal.loop-i-init
loop-i-init c = retain_first c.args.words.now c.args.process (whole (machine c.args.words.now) c.args.process c.args.start c.args.end) _ c.attached_count-n.ensures.value c.attached_count-n.ensures.upper_bound

pub loop-i-preserved : goal.loop-i-preserved
loop-i-preserved c = retain_more c.args.words.now c.args.process (whole (machine c.args.words.now) c.args.process c.args.start c.args.end) _ c.attached_count-n.ensures.value c.attached_count-n.ensures.upper_bound _ _ _ c.loop-i.invariant c.loop-i-test.true _ _ c.keep_place-kept.auto.words (same_test (machine c.args.words.now) _ _ c.args.process c.args.start c.args.end _ _ _ _ _ c.loop-i.invariant.1.1 (c.keep_place-kept.ensures.value, c.keep_place-kept.ensures.words_after))

pub shape_of-words : goal.shape_of-words
shape_of-words c = c.loop-i.invariant.1.0

pub returns : goal.returns
returns c = let the = retain_all c.args.words.now c.args.process (whole (machine c.args.words.now) c.args.process c.args.start c.args.end) _ c.attached_count-n.ensures.value c.attached_count-n.ensures.upper_bound _ _ _ c.loop-i.invariant c.loop-i-test.false in record { value = the.0; upper_bound = the.1.0; words_after = the.1.1 }
