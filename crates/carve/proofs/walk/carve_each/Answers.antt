-- The answers for `carve_each`.
use Rattle.std.specs.Prelude.{Result, ⊤, is_err}
use mathlib.Core.Path.{ap, sym, ◌∙◌}
use native.Mathlib.Omega.{arith}
use borrow.Author.Rules.{rules}
use Rattle.answers.specs.declared.Refusal.{Refusal}
use Rattle.carve.specs.CarveWalkLaws.{walk_first, walk_small, walk_bounds, walk_more, walk_rooms, walk_stops, walk_all}
use Rattle.carve.proofs.walk.carve_each.Goals as goal

pub loop-i-init : goal.loop-i-init
loop-i-init c = walk_first c.args.words.now c.args.out.now c.args.count c.args.process c.args.start c.args.end (omega arith) c.requires.ready

pub carve_one-requires : goal.carve_one-requires
carve_one-requires c = let s = walk_small c.args.words.now c.args.out.now c.args.count c.args.process c.args.start c.args.end (omega arith) _ _ c.loop-i.invariant c.loop-i-test.true in let b = walk_bounds c.args.words.now c.args.out.now c.args.count c.args.process c.args.start c.args.end (omega arith) _ _ c.loop-i.invariant c.loop-i-test.true in record { words_len = search rules; process_bound = search rules; slot_bound = search rules; bounded = search rules }

pub put_back-requires : goal.put_back-requires
put_back-requires c = record { words_len = c.carve_one.auto.words ∙ c.loop-i.invariant.1.0 ∙ c.requires.words_len; out_len = c.requires.out_len; process_bound = c.requires.process_bound; from_le_to = c.loop-i.invariant.0; to_bound = c.requires.count_bound; rooms = walk_rooms c.args.words.now c.args.out.now c.args.count c.args.process c.args.start c.args.end (omega arith) _ _ c.loop-i.invariant c.loop-i-test.true _ c.carve_one.ensures.value _ c.carve_one.ensures.words_after (ap (λ (d : Result ⊤ Refusal). is_err d) c.in-Err.is) }

pub returns-in-Err : goal.returns-in-Err
returns-in-Err c = let the = walk_stops c.args.words.now c.args.out.now c.args.count c.args.process c.args.start c.args.end (omega arith) _ _ c.loop-i.invariant c.loop-i-test.true _ c.carve_one.ensures.value _ c.carve_one.ensures.words_after (ap (λ (d : Result ⊤ Refusal). is_err d) c.in-Err.is) _ c.put_back.ensures in record { value = sym c.in-Err.is ∙ the.0; words_after = the.1 }

pub loop-i-preserved : goal.loop-i-preserved
loop-i-preserved c = walk_more c.args.words.now c.args.out.now c.args.count c.args.process c.args.start c.args.end (omega arith) _ _ c.loop-i.invariant c.loop-i-test.true _ c.carve_one.ensures.value _ c.carve_one.ensures.words_after c.carve_one.auto.words (ap (λ (d : Result ⊤ Refusal). is_err d) c.in_default.is)

pub returns : goal.returns
returns c = let the = walk_all c.args.words.now c.args.out.now c.args.count c.args.process c.args.start c.args.end (omega arith) _ _ c.loop-i.invariant c.loop-i-test.false in record { value = the.0; words_after = the.1 }
