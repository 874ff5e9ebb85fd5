-- The answers for `clear`.
use Rattle.std.proofs.Common.{◌≡◌, ◌-◌, ◌+◌, subst, arith}
use Rattle.remove.specs.ClearedLaws.{Clearing, clear_first, clear_more, clear_all}
use Rattle.remove.proofs.clear.clear.Goals as goal

pub loop-init : goal.loop-init
loop-init c = let value = c.attached_count-count.ensures.value in clear_first c.args.words.now c.args.process _ (omega arith)

pub loop-preserved : goal.loop-preserved
loop-preserved c =
    let more = c.loop-test.true in
    let less : c.attached_count-count.result - c.loop.counter - 1 ≡ c.attached_count-count.result - (c.loop.counter + 1) = omega arith in
    subst (Clearing c.args.words.now c.args.process c.remove_first.new.words) less (clear_more c.args.words.now c.args.process c.requires.process_bound _ _ c.loop.invariant (omega arith) _ c.remove_first.auto.words c.remove_first.ensures)

pub shape_of-words : goal.shape_of-words
shape_of-words c = c.loop.invariant.0

pub returns : goal.returns
returns c = let none = c.loop-test.false in clear_all c.args.words.now c.args.process _ _ c.loop.invariant (omega arith)
