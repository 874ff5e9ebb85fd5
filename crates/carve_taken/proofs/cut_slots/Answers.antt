-- The answers for `cut_slots`.
use mathlib.Core.Path.{refl, ◌∙◌}
use Rattle.model.specs.Layout.{machine}
use Rattle.model.specs.Machine.{order_of}
use Rattle.model.specs.Carve.{partial}
use Rattle.lookup.specs.AttachedLaws.{order_slot}
use Rattle.laws.specs.Lists.{keep}
use Rattle.regions.specs.PickedLaws.{picked_first, front_more}
use Rattle.regions.specs.DetachedLaws.{keeps}
use Rattle.carve_taken.specs.TakenOutLaws.{slots_all}
use Rattle.carve_taken.proofs.cut_slots.Goals as goal

pub loop-i-init : goal.loop-i-init
loop-i-init c = (picked_first (keep (partial (machine c.args.words.now) c.args.process c.args.start c.args.end)) (keeps (partial (machine c.args.words.now) c.args.process c.args.start c.args.end)) (order_of (machine c.args.words.now) c.args.process) _ c.attached_count-n.ensures.value c.args.out.now 0, refl)

pub loop-i-preserved : goal.loop-i-preserved
loop-i-preserved c = (front_more (keep (partial (machine c.args.words.now) c.args.process c.args.start c.args.end)) (keeps (partial (machine c.args.words.now) c.args.process c.args.start c.args.end)) (order_of (machine c.args.words.now) c.args.process) _ c.attached_count-n.ensures.value c.args.out.now _ _ _ c.loop-i.invariant.0 c.loop-i-test.true 0 _ (order_slot c.args.words.now c.args.process _ c.attached_count-n.ensures.value c.attached_count-n.ensures.upper_bound c.loop-i.i _ c.loop-i-test.true refl) _ _ c.put_slot-found.ensures.value c.put_slot-found.ensures.out_after, c.put_slot-found.auto.out ∙ c.loop-i.invariant.1)

pub shape_of-out : goal.shape_of-out
shape_of-out c = c.loop-i.invariant.1

pub returns : goal.returns
returns c = let the = slots_all (partial (machine c.args.words.now) c.args.process c.args.start c.args.end) (order_of (machine c.args.words.now) c.args.process) _ c.attached_count-n.ensures.value c.attached_count-n.ensures.upper_bound c.args.out.now _ _ _ c.loop-i.invariant.0 c.loop-i-test.false in record { value = the.0; upper_bound = the.1.0; out_after = the.1.1 }
