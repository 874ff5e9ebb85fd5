-- `backing_from` reads the backing at any frame number.
use Rattle.lookup.specs.BackedLaws.{no_backing_past}
use Rattle.lookup.proofs.backed.backing_from.Goals as goal

pub returns : goal.returns
returns c = no_backing_past c.args.words.now c.args.frame.0 c.if-frame.false
