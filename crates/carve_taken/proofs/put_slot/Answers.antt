-- `put_slot`: the slot is put, or nothing.
use mathlib.Core.Path.{sym, ◌∙◌}
use Rattle.model.specs.Layout.{machine}
use Rattle.carve_taken.specs.TakenOutLaws.{slot_not, slot_put}
use Rattle.carve_taken.proofs.put_slot.Goals as goal

pub returns-then-not-is_in_part : goal.returns-then-not-is_in_part
returns-then-not-is_in_part c = let the = slot_not (machine c.args.words.now) c.args.process c.args.start c.args.end _ _ c.order_at-slot.ensures _ c.region_in-region.ensures c.args.out.now c.args.found (sym c.if-not-is_in_part.true ∙ c.is_in_part.ensures) in record { value = the.0; out_after = the.1 }

pub returns : goal.returns
returns c = let the = slot_put (machine c.args.words.now) c.args.process c.args.start c.args.end _ _ c.order_at-slot.ensures _ c.region_in-region.ensures c.args.out.now c.args.found (sym c.if-not-is_in_part.false ∙ c.is_in_part.ensures) in record { value = the.0; out_after = the.1 }
