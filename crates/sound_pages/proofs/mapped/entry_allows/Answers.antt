-- `entry_allows` is allows.
use mathlib.Core.Path.{◌∙◌}
use Rattle.model.specs.Layout.{machine}
use Rattle.sound_pages.specs.MappedTestsLaws.{other_frame, same_frame}
use Rattle.sound_pages.proofs.mapped.entry_allows.Goals as goal

pub returns-then-entry-mapping : goal.returns-then-entry-mapping
returns-then-entry-mapping c = other_frame (machine c.args.words.now) c.args.entry c.args.mapping c.if-entry-mapping.true

pub returns : goal.returns
returns c = c.flags_fit.ensures ∙ same_frame (machine c.args.words.now) c.args.entry c.args.mapping c.if-entry-mapping.false _ c.region_at-owner.ensures _ c.backing_from-backing.ensures
