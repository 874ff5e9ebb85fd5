-- The answers for `starts_inside`.
use mathlib.Core.Path.{refl, ◌∙◌}
use Rattle.model.specs.Layout.{machine}
use Rattle.model.specs.Machine.{order_of}
use Rattle.lookup.specs.AttachedLaws.{order_slot}
use Rattle.regions.specs.PickedLaws.{picked_first, front_more}
use Rattle.carve_inside.specs.CarveAnswer.{starts_in}
use Rattle.carve_inside.specs.CarveAnswerLaws.{starts_picked, starts_all}
use Rattle.carve_inside.proofs.answer.starts_inside.Goals as goal

pub loop-i-init : goal.loop-i-init
loop-i-init c = (picked_first (starts_in (machine c.args.words.now) c.args.process c.args.start c.args.end) (starts_picked (machine c.args.words.now) c.args.process c.args.start c.args.end) (order_of (machine c.args.words.now) c.args.process) _ c.attached_count-n.ensures.value c.args.out.now 0, refl)

pub loop-i-preserved : goal.loop-i-preserved
loop-i-preserved c = (front_more (starts_in (machine c.args.words.now) c.args.process c.args.start c.args.end) (starts_picked (machine c.args.words.now) c.args.process c.args.start c.args.end) (order_of (machine c.args.words.now) c.args.process) _ c.attached_count-n.ensures.value c.args.out.now _ _ _ c.loop-i.invariant.0 c.loop-i-test.true 0 _ (order_slot c.args.words.now c.args.process _ c.attached_count-n.ensures.value c.attached_count-n.ensures.upper_bound c.loop-i.i _ c.loop-i-test.true refl) _ _ c.put_start-found.ensures.value c.put_start-found.ensures.out_after, c.put_start-found.auto.out ∙ c.loop-i.invariant.1)

pub shape_of-out : goal.shape_of-out
shape_of-out c = c.loop-i.invariant.1

pub returns : goal.returns
returns c = starts_all (machine c.args.words.now) c.args.process c.args.start c.args.end _ c.attached_count-n.ensures.value c.attached_count-n.ensures.upper_bound c.args.out.now _ c.requires.out_value _ _ c.loop-i.invariant.0 c.loop-i-test.false
