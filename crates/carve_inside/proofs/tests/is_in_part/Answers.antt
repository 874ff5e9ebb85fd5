-- `is_in_part`: it overlaps and does not lie inside.
use mathlib.Core.Path.{sym, ◌∙◌}
use Rattle.carve_inside.specs.InPartLaws.{part_not, part_by}
use Rattle.carve_inside.proofs.tests.is_in_part.Goals as goal

pub returns-then-not-overlaps : goal.returns-then-not-overlaps
returns-then-not-overlaps c = part_not c.args.region c.args.start c.args.end (sym c.overlaps.ensures ∙ c.if-not-overlaps.true)

pub returns : goal.returns
returns c = part_by c.args.region c.args.start c.args.end _ (sym c.overlaps.ensures ∙ c.if-not-overlaps.false) c.lies_inside.ensures
