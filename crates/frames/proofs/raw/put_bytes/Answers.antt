-- The answers for `put_bytes`.
use lib.ListN.{take, drop}
use Rattle.frames.specs.PutBytesLaws.{puts_first, puts_more, puts_all, length_part, part_byte}
use Rattle.frames.proofs.raw.put_bytes.Goals as goal

pub loop-k-init : goal.loop-k-init
loop-k-init c = puts_first c.args.to.now c.args.at (take c.args.count (drop c.args.start c.args.from.now)) c.args.count

pub loop-k-preserved : goal.loop-k-preserved
loop-k-preserved c =
    let more = c.loop-k-test.true in
    puts_more c.args.to.now c.args.at (take c.args.count (drop c.args.start c.args.from.now)) c.args.count (length_part c.args.from.now c.args.start c.args.count c.requires.count_in_bounds_2) c.loop-k.k c.loop-k.to _
    c.requires.count_in_bounds more (part_byte c.args.from.now c.args.start c.args.count c.loop-k.k more) c.loop-k.invariant

pub returns : goal.returns
returns c =
    puts_all c.args.to.now c.args.at (take c.args.count (drop c.args.start c.args.from.now)) c.args.count (length_part c.args.from.now c.args.start c.args.count c.requires.count_in_bounds_2) c.loop-k.k c.loop-k.to c.loop-k-test.false c.loop-k.invariant
