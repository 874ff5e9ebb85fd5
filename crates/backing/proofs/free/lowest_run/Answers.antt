-- The answers for `lowest_run`.
use Rattle.std.proofs.Common.{arith}
use Rattle.model.specs.Layout.{machine}
use Rattle.backing.specs.BackingSteps.{framed}
use Rattle.backing.specs.FreeSearchLaws.{run_first, run_found, run_more, run_none}
use Rattle.backing.specs.BackingWayLaws.{framed_row, fit_none}
use Rattle.backing.proofs.free.lowest_run.Goals as goal

pub returns-then-n-eq0 : goal.returns-then-n-eq0
returns-then-n-eq0 c = fit_none (framed (machine c.args.words.now)) c.args.n c.if-n-eq0.true

pub loop-i-init : goal.loop-i-init
loop-i-init c = let l = framed (machine c.args.words.now) in run_first l _ c.args.n c.frame_rows-rows.ensures.value

pub returns-then-i-start : goal.returns-then-i-start
returns-then-i-start c = let m = machine c.args.words.now in run_found (framed m) _ c.args.n c.frame_rows-rows.ensures.value _ _ _ c.loop-i.invariant c.loop-i-test.true _ (framed_row m _ _ (omega arith) c.backing_at-b.ensures) _ c.covered_from-covered.ensures _ c.run_start-start.ensures.value c.if-n-eq0.false c.if-i-start.true

pub loop-i-preserved : goal.loop-i-preserved
loop-i-preserved c = let m = machine c.args.words.now in run_more (framed m) _ c.args.n c.frame_rows-rows.ensures.value _ _ _ c.loop-i.invariant c.loop-i-test.true _ (framed_row m _ _ (omega arith) c.backing_at-b.ensures) _ c.covered_from-covered.ensures _ c.run_start-start.ensures.value c.if-n-eq0.false c.if-i-start.false

pub returns : goal.returns
returns c = let l = framed (machine c.args.words.now) in run_none l _ c.args.n c.frame_rows-rows.ensures.value _ _ _ c.loop-i.invariant c.loop-i-test.false
