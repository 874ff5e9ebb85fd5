-- `inside` is insideb: one law a way.
use mathlib.Core.Path.{sym, ◌∙◌}
use Rattle.segments.specs.CallLaws.{inside_not_page, inside_not_above, inside_above}
use Rattle.segments.proofs.manager.inside.Goals as goal

pub returns-then-not-is_aligned : goal.returns-then-not-is_aligned
returns-then-not-is_aligned c = inside_not_page c.args.segment c.args.at (sym c.is_aligned.ensures ∙ c.if-not-is_aligned.true)

pub returns-then-at-segment : goal.returns-then-at-segment
returns-then-at-segment c = inside_not_above c.args.segment c.args.at (sym c.is_aligned.ensures ∙ c.if-not-is_aligned.false) c.if-at-segment.true

pub returns : goal.returns
returns c = inside_above c.args.segment c.args.at (sym c.is_aligned.ensures ∙ c.if-not-is_aligned.false) c.if-at-segment.false
