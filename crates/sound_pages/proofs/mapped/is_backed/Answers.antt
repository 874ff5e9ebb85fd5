-- `is_backed` passes a marked row, and asks the range of any other.
use mathlib.Core.Path.{◌∙◌}
use Rattle.sound_pages.specs.MappedTestsLaws.{mark_passes, unmarked_range}
use Rattle.sound_pages.proofs.mapped.is_backed.Goals as goal

pub returns-then-mark-ne0 : goal.returns-then-mark-ne0
returns-then-mark-ne0 c = mark_passes c.args.mark _ c.if-mark-ne0.true

pub returns : goal.returns
returns c = c.range_allows.ensures ∙ unmarked_range c.args.mark _ c.if-mark-ne0.false
