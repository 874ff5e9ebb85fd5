-- The answers for `lowest_free`.
use Rattle.std.proofs.Common.{arith}
use Rattle.model.specs.Layout.{machine}
use Rattle.backing.specs.BackingSteps.{framed}
use Rattle.backing.specs.FreeSearchLaws.{seek_first, seek_found, seek_more, seek_none}
use Rattle.backing.specs.BackingWayLaws.{framed_row}
use Rattle.backing.proofs.free.lowest_free.Goals as goal

pub loop-i-init : goal.loop-i-init
loop-i-init c = let l = framed (machine c.args.words.now) in seek_first c.args.from.0 l _ c.frame_rows-rows.ensures.value

pub returns-then-covered-eq0 : goal.returns-then-covered-eq0
returns-then-covered-eq0 c = let m = machine c.args.words.now in seek_found c.args.from.0 (framed m) _ c.frame_rows-rows.ensures.value _ _ c.loop-i.invariant c.loop-i-test.true _ (framed_row m _ _ (omega arith) c.backing_at-b.ensures) _ c.covered_from-covered.ensures c.if-covered-eq0.true

pub loop-i-preserved : goal.loop-i-preserved
loop-i-preserved c = let m = machine c.args.words.now in seek_more c.args.from.0 (framed m) _ c.frame_rows-rows.ensures.value _ _ c.loop-i.invariant c.loop-i-test.true _ (framed_row m _ _ (omega arith) c.backing_at-b.ensures) _ c.covered_from-covered.ensures c.if-covered-eq0.false

pub returns : goal.returns
returns c = let l = framed (machine c.args.words.now) in seek_none c.args.from.0 l _ c.frame_rows-rows.ensures.value _ _ c.loop-i.invariant c.loop-i-test.false
