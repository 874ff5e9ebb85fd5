-- `is_of` is of_process.
use Rattle.sound_pages.specs.MappedTestsLaws.{above_first, not_above}
use Rattle.sound_pages.proofs.mapped.is_of.Goals as goal

pub returns-then-first-entry : goal.returns-then-first-entry
returns-then-first-entry c = above_first c.args.process c.args.entry c.if-first-entry.true

pub returns : goal.returns
returns c = not_above c.args.process c.args.entry c.if-first-entry.false
