-- `shared_way`: mapped already, or what backs the page decides.
use Rattle.fault_way.specs.WayLaws.{shared_mapped, shared_entry, shared_range, shared_unbacked, told_none, told_some}
use mathlib.Core.Path.{sym, ◌∙◌}
use Rattle.fault_way.proofs.shared_way.Goals as goal

pub returns-then-is_some : goal.returns-then-is_some
returns-then-is_some c = let some = told_some _ (sym c.is_some.ensures ∙ c.if-is_some.true) in shared_mapped c.args.page c.args.backed some.0 some.1

pub returns-in-ByEntry : goal.returns-in-ByEntry
returns-in-ByEntry c = shared_entry c.args.page c.args.backed (told_none _ (sym c.is_some.ensures ∙ c.if-is_some.false)) _ _ _ c.in-ByEntry.is

pub returns-in-ByRange : goal.returns-in-ByRange
returns-in-ByRange c = shared_range c.args.page c.args.backed (told_none _ (sym c.is_some.ensures ∙ c.if-is_some.false)) _ _ c.in-ByRange.is

pub returns-in-Unbacked : goal.returns-in-Unbacked
returns-in-Unbacked c = shared_unbacked c.args.page c.args.backed (told_none _ (sym c.is_some.ensures ∙ c.if-is_some.false)) c.in-Unbacked.is
