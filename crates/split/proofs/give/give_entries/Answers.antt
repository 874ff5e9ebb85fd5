-- The answers for `give_entries`.
use Rattle.split.specs.GivenEntriesLaws.{given_first, given_more, given_all}
use Rattle.split.proofs.give.give_entries.Goals as goal

pub loop-i-init : goal.loop-i-init
loop-i-init c = given_first c.args.words.now c.args.row c.args.at c.args.new

pub loop-i-preserved : goal.loop-i-preserved
loop-i-preserved c = given_more c.args.words.now c.args.row c.args.at c.args.new _ _ c.loop-i.invariant c.loop-i-test.true _ c.containing_address-page.ensures _ c.give_entry.auto.words c.give_entry.ensures

pub shape_of-words : goal.shape_of-words
shape_of-words c = c.loop-i.invariant.1.0

pub returns : goal.returns
returns c = given_all c.args.words.now c.args.row c.args.at c.args.new _ _ c.loop-i.invariant c.loop-i-test.false
