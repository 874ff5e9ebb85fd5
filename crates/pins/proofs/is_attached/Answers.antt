-- The answers for `is_attached`.
use mathlib.Core.Path.{refl}
use Rattle.std.specs.Prelude.{eqb}
use borrow.Author.Tests.{eq-eqb, ne_eqb}
use native.Mathlib.Omega.{arith}
use Rattle.model.specs.Layout.{machine}
use Rattle.model.specs.Machine.{order_of}
use Rattle.lookup.specs.AttachedLaws.{look_found, look_more, look_all, order_slot}
use Rattle.pins.specs.UnpinsLaws.{is_among, not_among}
use Rattle.pins.proofs.is_attached.Goals as goal

pub loop-i-init : goal.loop-i-init
loop-i-init c = (omega arith, refl)

pub returns-then-slot-here : goal.returns-then-slot-here
returns-then-slot-here c =
    let from = c.args in
    is_among _ _ _ (look_found (eqb from.slot) (order_of (machine from.words.now) from.process) _ c.attached_count-n.ensures.value _ c.loop-i.invariant c.loop-i-test.true _ (order_slot from.words.now from.process _ c.attached_count-n.ensures.value c.attached_count-n.ensures.upper_bound _ _ c.loop-i-test.true c.order_at-here.ensures) (eq-eqb _ _ c.if-slot-here.true))

pub loop-i-preserved : goal.loop-i-preserved
loop-i-preserved c =
    let from = c.args in
    look_more (eqb from.slot) (order_of (machine from.words.now) from.process) _ c.attached_count-n.ensures.value _ c.loop-i.invariant c.loop-i-test.true _ (order_slot from.words.now from.process _ c.attached_count-n.ensures.value c.attached_count-n.ensures.upper_bound _ _ c.loop-i-test.true c.order_at-here.ensures) (ne_eqb _ _ c.if-slot-here.false)

pub returns : goal.returns
returns c =
    let from = c.args in
    not_among _ _ (look_all (eqb from.slot) (order_of (machine from.words.now) from.process) _ c.attached_count-n.ensures.value _ c.loop-i.invariant c.loop-i-test.false)
