-- `keep_place` puts what stands at a place, if it is kept, and counts it.
use mathlib.Core.Path.{sym, ◌∙◌}
use Rattle.model.specs.Layout.{machine}
use Rattle.carve_taken.specs.TakenOutLaws.{cut_leaves, whole_stays}
use Rattle.carve_taken.proofs.keep_place.Goals as goal

pub returns-then-is_in_part : goal.returns-then-is_in_part
returns-then-is_in_part c = let the = cut_leaves (machine c.args.words.now) c.args.process c.args.start c.args.end _ _ c.order_at-slot.ensures _ c.region_in-region.ensures _ c.args.kept (sym c.if-is_in_part.true ∙ c.is_in_part.ensures) in record { value = the.0; words_after = the.1 }

pub returns : goal.returns
returns c = let the = whole_stays (machine c.args.words.now) c.args.process c.args.start c.args.end _ _ c.order_at-slot.ensures _ c.region_in-region.ensures _ c.args.kept _ (sym c.if-is_in_part.false ∙ c.is_in_part.ensures) c.put_order.ensures in record { value = the.0; words_after = the.1 }
