-- The answers for `next_start`.
use mathlib.Core.Path.{refl}
use native.Mathlib.Omega.{arith}
use Rattle.model.specs.Layout.{machine}
use Rattle.lookup.specs.AttachedLaws.{order_slot}
use Rattle.populate_visit.specs.PageWalkLaws.{from_none, from_more, from_all}
use Rattle.populate_visit.proofs.next_start.Goals as goal

pub loop-i-init : goal.loop-i-init
loop-i-init c = from_none (machine c.args.words.now) c.args.process c.args.page.0 _ c.attached_count-count.ensures.value

pub nearer_at-found-requires : goal.nearer_at-found-requires
nearer_at-found-requires c = record { words_len = c.requires.words_len; process_bound = c.requires.process_bound; i_bound = let k = c.loop-i.invariant.0 in let e = c.attached_count-count.ensures.value in let h = c.attached_count-count.ensures.upper_bound in omega arith }

pub loop-i-preserved : goal.loop-i-preserved
loop-i-preserved c = from_more (machine c.args.words.now) c.args.process c.args.page.0 _ _ _ c.loop-i.invariant c.loop-i-test.true _ (order_slot c.args.words.now c.args.process _ c.attached_count-count.ensures.value c.attached_count-count.ensures.upper_bound _ _ (let k = c.loop-i.invariant.0 in let e = c.attached_count-count.ensures.value in omega arith) refl) c.nearer_at-found.ensures

pub returns : goal.returns
returns c = from_all (machine c.args.words.now) c.args.process c.args.page.0 _ _ c.loop-i.invariant c.loop-i-test.false
