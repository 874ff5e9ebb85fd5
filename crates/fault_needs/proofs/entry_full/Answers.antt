-- `entry_full`: the page has an entry, or it has none.
use Rattle.model.specs.Layout.{machine}
use Rattle.fault_needs.specs.WayNeedsLaws.{full_entry, full_none}
use Rattle.fault_needs.proofs.entry_full.Goals as goal

pub returns-in_default : goal.returns-in_default
returns-in_default c = full_none (machine c.args.words.now) c.args.process c.args.slot c.args.page.0 _ c.entry_for.ensures c.in_default.is _ c.no_entry_left.ensures

pub returns : goal.returns
returns c = full_entry (machine c.args.words.now) c.args.process c.args.slot c.args.page.0 _ c.entry_for.ensures _ c.in-Some.is
