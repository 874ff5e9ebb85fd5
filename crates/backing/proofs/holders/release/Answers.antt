-- `release` puts one holder less, or no backing and the pool with its frames.
use Rattle.model.specs.Layout.{machine}
use Rattle.backing.specs.BackingWayLaws.{fewer_left, freed_left}
use Rattle.std.proofs.Common.{arith}
use Rattle.backing.proofs.holders.release.Goals as goal

pub returns-then-b-gt1 : goal.returns-then-b-gt1
returns-then-b-gt1 c = fewer_left (machine c.args.words.now) c.args.frame.0 _ c.backing_at-b.ensures (omega arith) _ c.put_backing.ensures

pub returns : goal.returns
returns c = freed_left (machine c.args.words.now) c.args.frame.0 _ c.backing_at-b.ensures (omega arith) _ c.pool-before.ensures _ c.put_backing-2.ensures _ c.put_given_back.ensures
