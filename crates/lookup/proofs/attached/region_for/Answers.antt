-- The answers for `region_for`.
use mathlib.Core.Path.{refl, sym, ◌∙◌}
use native.Mathlib.Omega.{arith}
use Rattle.model.specs.Layout.{machine}
use Rattle.model.specs.Machine.{order_of}
use Rattle.model.specs.Lookup.{region_for}
use Rattle.lookup.specs.AttachedLaws.{holds_at, look_found, look_more, look_all, order_slot}
use Rattle.lookup.proofs.attached.region_for.Goals as goal

pub loop-i-init : goal.loop-i-init
loop-i-init c = (omega arith, refl)

pub returns-then-slot_contains : goal.returns-then-slot_contains
unfolding region_for
returns-then-slot_contains c = let w = c.args.words.now in let p = c.args.process in let a = c.args.addr.0 in look_found (holds_at (machine w) p a) (order_of (machine w) p) _ c.attached_count-n.ensures.value _ c.loop-i.invariant c.loop-i-test.true _ (order_slot w p _ c.attached_count-n.ensures.value c.attached_count-n.ensures.upper_bound _ _ c.loop-i-test.true c.order_at-slot.ensures) (sym c.slot_contains.ensures ∙ c.if-slot_contains.true)

pub loop-i-preserved : goal.loop-i-preserved
loop-i-preserved c = let w = c.args.words.now in let p = c.args.process in let a = c.args.addr.0 in look_more (holds_at (machine w) p a) (order_of (machine w) p) _ c.attached_count-n.ensures.value _ c.loop-i.invariant c.loop-i-test.true _ (order_slot w p _ c.attached_count-n.ensures.value c.attached_count-n.ensures.upper_bound _ _ c.loop-i-test.true c.order_at-slot.ensures) (sym c.slot_contains.ensures ∙ c.if-slot_contains.false)

pub returns : goal.returns
unfolding region_for
returns c = let w = c.args.words.now in let p = c.args.process in let a = c.args.addr.0 in look_all (holds_at (machine w) p a) (order_of (machine w) p) _ c.attached_count-n.ensures.value _ c.loop-i.invariant c.loop-i-test.false
