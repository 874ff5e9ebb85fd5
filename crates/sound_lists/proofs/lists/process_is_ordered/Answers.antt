-- The answers for `process_is_ordered`.
use mathlib.Core.Path.{sym, ◌∙◌}
use Rattle.model.specs.Layout.{machine}
use Rattle.lookup.specs.LookupsLaws.{slots_length}
use Rattle.lookup.specs.AttachedLaws.{order_slot}
use Rattle.sound_lists.specs.ListOrderLaws.{seen_first, seen_fails, seen_more, not_zero, ordered_if}
use Rattle.sound_lists.proofs.lists.process_is_ordered.Goals as goal

pub loop-i-init : goal.loop-i-init
loop-i-init c = seen_first (machine c.args.words.now) c.args.process _ c.attached_count-n.ensures.value

pub returns-then-not-mark_listed : goal.returns-then-not-mark_listed
returns-then-not-mark_listed c = let w = c.args.words.now in let p = c.args.process in seen_fails (machine w) p _ c.attached_count-n.ensures.value c.loop-i.marks c.loop-i.i c.loop-i.invariant c.loop-i-test.true _ (order_slot w p _ c.attached_count-n.ensures.value c.attached_count-n.ensures.upper_bound c.loop-i.i _ c.loop-i-test.true c.order_at-slot.ensures) _ c.mark_listed.ensures.value c.if-not-mark_listed.true

pub loop-i-preserved : goal.loop-i-preserved
loop-i-preserved c = let w = c.args.words.now in let p = c.args.process in seen_more (machine w) p _ c.attached_count-n.ensures.value c.loop-i.marks c.loop-i.i c.loop-i.invariant c.loop-i-test.true _ (order_slot w p _ c.attached_count-n.ensures.value c.attached_count-n.ensures.upper_bound c.loop-i.i _ c.loop-i-test.true c.order_at-slot.ensures) _ c.mark_listed.ensures.value c.if-not-mark_listed.false _ (c.mark_listed.ensures.marks_after c.if-not-mark_listed.false)

pub returns-then-not-places_are_zero : goal.returns-then-not-places_are_zero
returns-then-not-places_are_zero c = not_zero (machine c.args.words.now) c.args.process _ c.attached_count-n.ensures.value c.loop-i.marks c.loop-i.i c.loop-i.invariant c.loop-i-test.false (sym c.places_are_zero.ensures ∙ c.if-not-places_are_zero.true)

pub returns : goal.returns
returns c = c.unmarked_are_pinned.ensures ∙ ordered_if (machine c.args.words.now) c.args.process _ c.attached_count-n.ensures.value c.loop-i.marks c.loop-i.i c.loop-i.invariant c.loop-i-test.false (sym c.places_are_zero.ensures ∙ c.if-not-places_are_zero.false) (slots_length c.args.words.now c.args.process c.requires.process_bound)
