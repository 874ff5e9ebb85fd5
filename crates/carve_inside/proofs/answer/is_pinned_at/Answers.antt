-- `is_pinned_at`: the region at the place lies inside and is pinned.
use mathlib.Core.Path.{sym, ◌∙◌}
use Rattle.model.specs.Layout.{machine}
use Rattle.carve_inside.specs.PinnedInsideLaws.{pinned_not, pinned_by}
use Rattle.carve_inside.proofs.answer.is_pinned_at.Goals as goal

pub returns-then-not-lies_inside : goal.returns-then-not-lies_inside
returns-then-not-lies_inside c = pinned_not (machine c.args.words.now) c.args.process c.args.start c.args.end _ _ c.order_at-slot.ensures _ c.region_in-region.ensures (sym c.lies_inside.ensures ∙ c.if-not-lies_inside.true)

pub returns : goal.returns
returns c = pinned_by (machine c.args.words.now) c.args.process c.args.start c.args.end _ _ c.order_at-slot.ensures _ c.region_in-region.ensures (sym c.lies_inside.ensures ∙ c.if-not-lies_inside.false)
