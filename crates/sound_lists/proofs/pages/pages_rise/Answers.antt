-- The answers for `pages_rise`.
use mathlib.Core.Path.{refl, sym, ◌∙◌}
use Rattle.model.specs.Layout.{machine}
use Rattle.model.specs.Machine.{no_mapping, mapped_of}
use Rattle.laws.specs.LoopLaws.{every_first, every_fails, every_more, every_all}
use Rattle.sound_lists.specs.PageOrder.{follows}
use Rattle.sound_lists.specs.PageOrderLaws.{page_follows, neighbours_rise}
use Rattle.sound_lists.proofs.pages.pages_rise.Goals as goal

pub loop-i-init : goal.loop-i-init
loop-i-init c = let l = mapped_of (machine c.args.words.now) c.args.process in every_first (follows l) l _ (sym c.mapped_count-n.ensures.value)

pub returns-then-not-page_follows : goal.returns-then-not-page_follows
returns-then-not-page_follows c = let m = machine c.args.words.now in let p = c.args.process in let l = mapped_of m p in every_fails (follows l) l _ (sym c.mapped_count-n.ensures.value) _ c.loop-i.invariant c.loop-i-test.true no_mapping _ refl (sym (page_follows m p _ (rw c.mapped_count-n.ensures.value at c.loop-i-test.true)) ∙ sym c.page_follows.ensures ∙ c.if-not-page_follows.true) ∙ neighbours_rise l

pub loop-i-preserved : goal.loop-i-preserved
loop-i-preserved c = let m = machine c.args.words.now in let p = c.args.process in let l = mapped_of m p in every_more (follows l) l _ (sym c.mapped_count-n.ensures.value) _ c.loop-i.invariant c.loop-i-test.true no_mapping _ refl (sym (page_follows m p _ (rw c.mapped_count-n.ensures.value at c.loop-i-test.true)) ∙ sym c.page_follows.ensures ∙ c.if-not-page_follows.false)

pub returns : goal.returns
returns c = let m = machine c.args.words.now in let p = c.args.process in let l = mapped_of m p in every_all (follows l) l _ (sym c.mapped_count-n.ensures.value) _ c.loop-i.invariant c.loop-i-test.false ∙ neighbours_rise l
