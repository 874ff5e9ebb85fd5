-- `is_bad_place`: one law for each way; the end is compared with no sum.
use mathlib.Core.Path.{sym, ◌∙◌}
use Rattle.create.specs.RequestRefusedLaws.{place_unaligned, place_past, place_ends}
use Rattle.create.proofs.refusals.is_bad_place.Goals as goal

pub returns-then-not-is_aligned : goal.returns-then-not-is_aligned
returns-then-not-is_aligned c = place_unaligned c.args.place c.args.size _ c.in-At.is (sym c.is_aligned.ensures ∙ c.if-not-is_aligned.true)

pub returns-then-start-gt-USER_END : goal.returns-then-start-gt-USER_END
returns-then-start-gt-USER_END c = place_past c.args.place c.args.size _ c.in-At.is (sym c.is_aligned.ensures ∙ c.if-not-is_aligned.false) c.if-start-gt-USER_END.true

pub returns : goal.returns
returns c = place_ends c.args.place c.args.size _ c.in-At.is (sym c.is_aligned.ensures ∙ c.if-not-is_aligned.false) _ (c.segment_len-len.ensures c.requires) c.if-start-gt-USER_END.false
