-- The answers for `pinned_inside`.
use mathlib.Core.Path.{refl, sym, ◌∙◌}
use Rattle.model.specs.Layout.{machine}
use Rattle.model.specs.Machine.{order_of}
use Rattle.lookup.specs.AttachedLaws.{order_slot}
use Rattle.carve_inside.specs.PinnedInside.{pinned_in}
use Rattle.laws.specs.LoopLaws.{sought_found, sought_more, sought_none}
use Rattle.carve_inside.specs.PinnedInsideLaws.{pinned_is}
use mathlib.Core.Bool.{true, false}
use Rattle.carve_inside.proofs.answer.pinned_inside.Goals as goal

pub returns-then-is_pinned_at : goal.returns-then-is_pinned_at
returns-then-is_pinned_at c = pinned_is (machine c.args.words.now) c.args.process c.args.start c.args.end true (sought_found (pinned_in (machine c.args.words.now) c.args.process c.args.start c.args.end) (order_of (machine c.args.words.now) c.args.process) _ (sym c.attached_count-n.ensures.value) _ c.loop-i.invariant c.loop-i-test.true 0 _ (order_slot c.args.words.now c.args.process _ c.attached_count-n.ensures.value c.attached_count-n.ensures.upper_bound c.loop-i.i _ c.loop-i-test.true refl) (sym c.is_pinned_at.ensures ∙ c.if-is_pinned_at.true))

pub loop-i-preserved : goal.loop-i-preserved
loop-i-preserved c = sought_more (pinned_in (machine c.args.words.now) c.args.process c.args.start c.args.end) (order_of (machine c.args.words.now) c.args.process) _ (sym c.attached_count-n.ensures.value) _ c.loop-i.invariant c.loop-i-test.true 0 _ (order_slot c.args.words.now c.args.process _ c.attached_count-n.ensures.value c.attached_count-n.ensures.upper_bound c.loop-i.i _ c.loop-i-test.true refl) (sym c.is_pinned_at.ensures ∙ c.if-is_pinned_at.false)

pub returns : goal.returns
returns c = pinned_is (machine c.args.words.now) c.args.process c.args.start c.args.end false (sought_none (pinned_in (machine c.args.words.now) c.args.process c.args.start c.args.end) (order_of (machine c.args.words.now) c.args.process) _ (sym c.attached_count-n.ensures.value) _ c.loop-i.invariant c.loop-i-test.false)
