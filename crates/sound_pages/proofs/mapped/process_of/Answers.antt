-- `process_of` is the process of an entry's owner.
use Rattle.sound_pages.specs.MappedSpansLaws.{owner_none, owner_past, owner_some}
use Rattle.sound_pages.proofs.mapped.process_of.Goals as goal

pub returns-then-entry-eq0 : goal.returns-then-entry-eq0
returns-then-entry-eq0 c = owner_none c.args.entry c.if-entry-eq0.true

pub returns-then-entry : goal.returns-then-entry
returns-then-entry c = owner_past c.args.entry c.if-entry.true

pub returns : goal.returns
returns c = owner_some c.args.entry c.if-entry-eq0.false c.if-entry.false
