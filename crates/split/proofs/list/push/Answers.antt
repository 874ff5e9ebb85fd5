-- `push` puts the slot behind the last, and the count.
use Rattle.split.specs.ListRoomLaws.{puts_last}
use Rattle.regions.specs.AddedLaws.{count_below, places_inside}
use Rattle.model.specs.Layout.{machine}
use borrow.Author.Rules.{rules}
use Rattle.split.proofs.list.push.Goals as goal

pub overflow_add-process : goal.overflow_add-process
overflow_add-process c = let few = count_below (machine c.args.words.now) c.args.process _ c.process_at-p.ensures c.requires.room.few in search rules

pub put_order-requires : goal.put_order-requires
put_order-requires c = let few = count_below (machine c.args.words.now) c.args.process _ c.process_at-p.ensures c.requires.room.few in record { words_len = search rules; i_bound = search rules }

pub overflow_add-p : goal.overflow_add-p
overflow_add-p c = let few = count_below (machine c.args.words.now) c.args.process _ c.process_at-p.ensures c.requires.room.few in search rules

pub returns : goal.returns
returns c = puts_last (machine c.args.words.now) _ _ c.args.process c.args.slot _ (places_inside c.args.words.now c.args.process c.requires.process_bound) c.requires.room c.process_at-p.ensures c.put_order.ensures c.put_attached.ensures
