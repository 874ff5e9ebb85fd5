-- `split_bound`: the bound is not inside, or the region is cut and its low part listed.
use mathlib.Core.Path.{sym, ◌∙◌}
use Rattle.split.specs.SplitBoundLaws.{bound_outside, bound_sum, bound_none, bound_room, bound_split}
use Rattle.regions.specs.RoomLaws.{free_below}
use Rattle.model.specs.Layout.{machine}
use borrow.Author.Rules.{rules}
use Rattle.split.proofs.bounds.split_bound.Goals as goal

pub returns-then-not-is_strictly_inside : goal.returns-then-not-is_strictly_inside
returns-then-not-is_strictly_inside c = let the = bound_outside (machine c.args.words.now) c.args.process c.args.slot c.args.at _ c.region_at-region.ensures (sym c.if-not-is_strictly_inside.true ∙ c.is_strictly_inside.ensures) in record { value = the.0; words_after = the.1 }

pub returns-in_default : goal.returns-in_default
returns-in_default c = let the = bound_none (machine c.args.words.now) c.args.process c.args.slot c.args.at _ c.region_at-region.ensures c.requires.splittable (sym c.if-not-is_strictly_inside.false ∙ c.is_strictly_inside.ensures) (sym c.in_default.is ∙ c.free_slot.ensures) _ _ in record { value = the.0; words_after = the.1 }

pub cut-requires : goal.cut-requires
cut-requires c = let l = c.requires.words_len in let p = c.requires.process_bound in let s = c.requires.splittable.small in let n = free_below (machine c.args.words.now) c.args.process _ (sym c.free_slot.ensures ∙ c.in-Some.is) in let b = bound_sum (machine c.args.words.now) c.args.process c.args.slot c.args.at _ c.region_at-region.ensures c.requires.splittable (sym c.if-not-is_strictly_inside.false ∙ c.is_strictly_inside.ensures) in record { words_len = search rules; process_bound = search rules; slot_bound = search rules; bound = search rules; slot_bound_2 = search rules }

pub push-requires : goal.push-requires
push-requires c = let l = c.requires.words_len in let p = c.requires.process_bound in let r = bound_room (machine c.args.words.now) c.args.process c.args.slot c.args.at _ c.region_at-region.ensures c.requires.splittable (sym c.if-not-is_strictly_inside.false ∙ c.is_strictly_inside.ensures) _ _ c.cut.ensures in record { words_len = search rules; process_bound = search rules; room = search rules }

pub returns : goal.returns
returns c = let the = bound_split (machine c.args.words.now) c.args.process c.args.slot c.args.at _ c.region_at-region.ensures c.requires.splittable (sym c.if-not-is_strictly_inside.false ∙ c.is_strictly_inside.ensures) _ (sym c.in-Some.is ∙ c.free_slot.ensures) _ _ c.cut.ensures c.push.ensures in record { value = the.0; words_after = the.1 }
