-- `split_at_bounds`: one bound after the other, then what is left is listed.
use Rattle.split.specs.SplitBoundLaws.{second_ready, last_room, bounds_done}
use Rattle.model.specs.Layout.{machine}
use borrow.Author.Rules.{rules}
use Rattle.split.proofs.bounds.split_at_bounds.Goals as goal

pub split_bound-last-requires : goal.split_bound-last-requires
split_bound-last-requires c = let l = c.requires.words_len in let p = c.requires.process_bound in let r = second_ready (machine c.args.words.now) c.args.process c.args.slot c.args.start c.args.end c.requires.bounded _ _ (c.split_bound-middle.ensures.value, c.split_bound-middle.ensures.words_after) in record { words_len = search rules; process_bound = search rules; splittable = search rules }

pub push-requires : goal.push-requires
push-requires c = let l = c.requires.words_len in let p = c.requires.process_bound in let r = last_room (machine c.args.words.now) c.args.process c.args.slot c.args.start c.args.end c.requires.bounded _ _ (c.split_bound-middle.ensures.value, c.split_bound-middle.ensures.words_after) _ _ (c.split_bound-last.ensures.value, c.split_bound-last.ensures.words_after) in record { words_len = search rules; process_bound = search rules; room = search rules }

pub returns : goal.returns
returns c = bounds_done (machine c.args.words.now) c.args.process c.args.slot c.args.start c.args.end c.requires.bounded _ _ (c.split_bound-middle.ensures.value, c.split_bound-middle.ensures.words_after) _ _ (c.split_bound-last.ensures.value, c.split_bound-last.ensures.words_after) _ c.push.ensures
