-- `put_start`: the start is put, or nothing.
use mathlib.Core.Path.{sym, ◌∙◌}
use Rattle.model.specs.Layout.{machine}
use Rattle.carve_inside.specs.CarveAnswerLaws.{start_not, start_put}
use Rattle.carve_inside.proofs.answer.put_start.Goals as goal

pub returns-then-not-lies_inside : goal.returns-then-not-lies_inside
returns-then-not-lies_inside c = let the = start_not (machine c.args.words.now) c.args.process c.args.start c.args.end _ _ c.order_at-slot.ensures _ c.region_in-region.ensures c.args.out.now c.args.found (sym c.lies_inside.ensures ∙ c.if-not-lies_inside.true) in record { value = the.0; out_after = the.1 }

pub returns : goal.returns
returns c = let the = start_put (machine c.args.words.now) c.args.process c.args.start c.args.end _ _ c.order_at-slot.ensures _ c.region_in-region.ensures c.args.out.now c.args.found (sym c.lies_inside.ensures ∙ c.if-not-lies_inside.false) in record { value = the.0; out_after = the.1 }
