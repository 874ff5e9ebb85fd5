-- `is_open` reads the process's row, or there is none of this number.
use mathlib.Core.Path.{refl, ◌∙◌}
use borrow.Author.Tests.{le-ltb}
use Rattle.lookup.specs.FirstOfLaws.{open_row, closed_past}
use Rattle.lookup.proofs.search.is_open.Goals as goal

pub returns-then-process : goal.returns-then-process
returns-then-process c = open_row _ _ _ _ c.process_at.ensures refl

pub returns-else-process : goal.returns-else-process
returns-else-process c = le-ltb _ _ c.if-process.false ∙ closed_past _ _ c.if-process.false
