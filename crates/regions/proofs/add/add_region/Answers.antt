-- `add_region` puts the region, its slot's place, and the count.
use native.Mathlib.Omega.{arith}
use Rattle.model.specs.Layout.{machine}
use Rattle.regions.specs.AddedLaws.{count_below, puts_added}
use borrow.Author.Rules.{rules}
use Rattle.regions.proofs.add.add_region.Goals as goal

pub overflow_add-process-2 : goal.overflow_add-process-2
overflow_add-process-2 c = let l = count_below (machine c.args.words.now) c.args.process _ c.process_at-p.ensures c.requires.process_bound_2 in omega arith

pub put_order-requires : goal.put_order-requires
put_order-requires c = let l = count_below (machine c.args.words.now) c.args.process _ c.process_at-p.ensures c.requires.process_bound_2 in record { words_len = search rules; i_bound = search rules }

pub overflow_add-p : goal.overflow_add-p
overflow_add-p c = let l = count_below (machine c.args.words.now) c.args.process _ c.process_at-p.ensures c.requires.process_bound_2 in omega arith

pub returns : goal.returns
returns c = puts_added (machine c.args.words.now) _ _ _ c.args.process c.args.slot c.args.region _ c.process_at-p.ensures c.put_region.ensures c.put_order.ensures c.put_attached.ensures
