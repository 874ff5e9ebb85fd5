-- `claim` puts the backing, and the pool without its frames.
use Rattle.model.specs.Layout.{machine}
use Rattle.backing.specs.BackingWayLaws.{claim_left}
use Rattle.backing.proofs.holders.claim.Goals as goal

pub returns : goal.returns
returns c = claim_left (machine c.args.words.now) c.args.frame.0 c.args.count _ c.pool-before.ensures _ c.put_backing.ensures _ c.lowest_free-next.ensures _ c.put_taken.ensures
