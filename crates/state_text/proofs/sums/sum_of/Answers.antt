-- The answers for `sum_of`.
use Rattle.std.proofs.Common.{refl, ◌∙◌}
use Rattle.state_text.specs.SumLaws.{sum_small, sum_more, sum_all}
use Rattle.state_text.proofs.sums.sum_of.Goals as goal

pub loop-byte-preserved : goal.loop-byte-preserved
loop-byte-preserved c =
    let l = c.loop-byte in
    record { fits = sum_small _; same = sum_more l.sum _ c.args.bytes.now l.byte-index c.loop-byte-test.true refl ∙ l.invariant.same }

pub returns : goal.returns
returns c = sum_all c.loop-byte.sum c.args.bytes.now c.loop-byte.byte-index c.loop-byte-test.false c.loop-byte.invariant.same
