-- `slots_needed`: the bounds that lie inside, an equal one counted once.
use Rattle.carve_cut.specs.CutRefusalLaws.{needs_first, needs_both}
use mathlib.Core.Path.{ap, ◌∙◌}
use Rattle.model.specs.Create.{one}
use Rattle.carve_cut.proofs.refusal.slots_needed.Goals as goal

pub returns-then-start-end : goal.returns-then-start-end
returns-then-start-end c = needs_first c.args.region c.args.start c.args.end _ (c.one_if-first.ensures.value ∙ ap one c.is_strictly_inside.ensures) c.if-start-end.true

pub returns : goal.returns
returns c = needs_both c.args.region c.args.start c.args.end _ (c.one_if-first.ensures.value ∙ ap one c.is_strictly_inside.ensures) c.if-start-end.false _ (c.one_if.ensures.value ∙ ap one c.is_strictly_inside-2.ensures)
