-- The answers for `covers`.
use mathlib.Core.Path.{refl}
use native.Mathlib.Omega.{arith}
use borrow.Author.Rules.{rules}
use Rattle.model.specs.Layout.{machine}
use Rattle.regions.specs.CoverLaws.{left_first, left_next, left_done, covered_empty}
use Rattle.regions.proofs.cover.covers.Goals as goal

pub returns-then-end-start : goal.returns-then-end-start
returns-then-end-start c = λ sound. covered_empty (machine c.args.words.now) c.args.process c.args.start c.args.end c.if-end-start.true

pub loop-i-init : goal.loop-i-init
loop-i-init c = left_first c.args.words.now c.args.process c.args.start c.args.end _ refl

pub overflow_mul-process : goal.overflow_mul-process
overflow_mul-process c = let low = c.requires.process_bound in omega arith

pub overflow_add-process : goal.overflow_add-process
overflow_add-process c = let low = c.requires.process_bound in let few = c.attached_count-n.ensures.upper_bound in omega arith

pub order_at-slot-requires : goal.order_at-slot-requires
order_at-slot-requires c = let low = c.requires.process_bound in let few = c.attached_count-n.ensures.upper_bound in record { words_len = search rules; i_bound = search rules }

pub loop-i-preserved : goal.loop-i-preserved
loop-i-preserved c = left_next c.args.words.now c.args.process c.args.start c.args.end _ c.attached_count-n.ensures.value c.attached_count-n.ensures.upper_bound _ _ c.loop-i.invariant _ c.order_at-slot.ensures _ c.slot_len.ensures c.loop-i-test.true _ c.saturating_sub-left.ensures

pub returns : goal.returns
returns c = λ sound. left_done c.args.words.now c.args.process c.args.start c.args.end _ c.attached_count-n.ensures.value c.attached_count-n.ensures.upper_bound _ _ c.loop-i.invariant c.loop-i-test.false c.requires.process_bound c.if-end-start.false sound
