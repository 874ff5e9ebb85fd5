-- `hold` puts one holder more.
use Rattle.model.specs.Layout.{machine}
use Rattle.backing.specs.BackingWayLaws.{hold_left}
use Rattle.std.specs.Prelude.{refl}
use Rattle.backing.proofs.holders.hold.Goals as goal

pub returns : goal.returns
returns c = hold_left (machine c.args.words.now) c.args.frame.0 _ c.backing_at-b.ensures _ refl _ c.put_backing.ensures
