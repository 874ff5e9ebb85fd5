-- The answers for `put_back`.
use mathlib.Core.Path.{refl}
use native.Mathlib.Omega.{arith}
use borrow.Author.Rules.{rules}
use Rattle.carve.specs.PutBackLaws.{back_first, back_room, back_more, back_all}
use Rattle.carve.proofs.back.put_back.Goals as goal

pub loop-i-init : goal.loop-i-init
loop-i-init c = back_first c.args.words.now c.args.out.now c.args.from c.args.to c.args.process (omega arith) c.requires.from_le_to c.requires.rooms

pub push-requires : goal.push-requires
push-requires c = let r = back_room c.args.words.now c.args.out.now c.args.from c.args.to c.args.process (omega arith) _ _ c.loop-i.invariant c.loop-i-test.true in record { words_len = search rules; process_bound = search rules; room = search rules }

pub loop-i-preserved : goal.loop-i-preserved
loop-i-preserved c = back_more c.args.words.now c.args.out.now c.args.from c.args.to c.args.process (omega arith) _ _ c.loop-i.invariant c.loop-i-test.true _ refl _ c.push.auto.words c.push.ensures

pub shape_of-words : goal.shape_of-words
shape_of-words c = c.loop-i.invariant.1.0

pub returns : goal.returns
returns c = back_all c.args.words.now c.args.out.now c.args.from c.args.to c.args.process (omega arith) _ _ c.loop-i.invariant c.loop-i-test.false
