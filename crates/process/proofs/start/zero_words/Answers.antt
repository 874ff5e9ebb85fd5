-- The answers for `zero_words`.
use Rattle.process.specs.StartLaws.{zero_first, zero_more, zero_all}
use borrow.Author.Rules.{rules}
use Rattle.process.proofs.start.zero_words.Goals as goal

pub loop-i-init : goal.loop-i-init
loop-i-init c = zero_first c.args.words.now c.requires

pub bounds-words-i : goal.bounds-words-i
bounds-words-i c = let sized = c.loop-i.invariant.0 in search rules

pub loop-i-preserved : goal.loop-i-preserved
loop-i-preserved c = zero_more c.loop-i.words c.loop-i.i c.loop-i-test.true c.loop-i.invariant

pub shape_of-words : goal.shape_of-words
shape_of-words c = let sized = c.loop-i.invariant.0 in let before = c.requires in search rules

pub returns : goal.returns
returns c = zero_all c.loop-i.words c.loop-i.i c.loop-i-test.false c.loop-i.invariant
