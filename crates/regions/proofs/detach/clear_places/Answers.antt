-- The answers for `clear_places`.
use Rattle.regions.specs.DetachedLaws.{clear_first, clear_more, clear_all}
use Rattle.regions.proofs.detach.clear_places.Goals as goal

pub loop-i-init : goal.loop-i-init
loop-i-init c = clear_first c.args.words.now c.args.process c.args.from c.requires.from_bound

pub loop-i-preserved : goal.loop-i-preserved
loop-i-preserved c = clear_more c.args.words.now c.args.process c.args.from _ _ c.loop-i.invariant c.loop-i-test.true _ c.put_order.auto.words c.put_order.ensures

pub shape_of-words : goal.shape_of-words
shape_of-words c = c.loop-i.invariant.1.0

pub returns : goal.returns
returns c = clear_all c.args.words.now c.args.process c.args.from _ _ c.loop-i.invariant c.loop-i-test.false
