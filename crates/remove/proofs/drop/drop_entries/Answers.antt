-- The answers for `drop_entries`.
use Rattle.remove.specs.DroppedLaws.{drop_first, drop_more, drop_all}
use Rattle.remove.proofs.drop.drop_entries.Goals as goal

pub loop-i-init : goal.loop-i-init
loop-i-init c = drop_first c.args.words.now c.args.row

pub loop-i-preserved : goal.loop-i-preserved
loop-i-preserved c = drop_more c.args.words.now c.args.row _ _ c.loop-i.invariant c.loop-i-test.true _ c.drop_entry.auto.words c.drop_entry.ensures

pub shape_of-words : goal.shape_of-words
shape_of-words c = c.loop-i.invariant.1.0

pub returns : goal.returns
returns c = drop_all c.args.words.now c.args.row _ _ c.loop-i.invariant c.loop-i-test.false
