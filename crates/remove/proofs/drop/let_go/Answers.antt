-- `let_go` releases the backing, where the frame has a row.
use Rattle.model.specs.Layout.{machine}
use Rattle.remove.specs.DroppedLaws.{lets_go, lets_go_past}
use Rattle.remove.proofs.drop.let_go.Goals as goal

pub returns-then-frame : goal.returns-then-frame
returns-then-frame c = lets_go (machine c.args.words.now) c.args.frame.0 _ c.release.ensures

pub returns : goal.returns
returns c = lets_go_past (machine c.args.words.now) c.args.frame.0 c.if-frame.false
