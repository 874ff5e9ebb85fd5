-- `paging_unmap` unmaps what is mapped, and leaves other words as they are.
use Rattle.std.proofs.Common.{sym, ap, ◌∙◌}
use Rattle.bench_c.specs.LookupsOnLaws.{there, no_machine, past_last, answered, unanswered, left_changed, left_kept}
use Rattle.bench_c.specs.LookupsOn.{mapped_one}
use Rattle.bench_c.proofs.lookups.paging_unmap.Goals as goal

pub returns-then-words-ne11844 : goal.returns-then-words-ne11844
returns-then-words-ne11844 c = let no = no_machine 8 _ _ c.if-words-ne11844.true in record { value = unanswered _ _ _ no; left = left_kept _ _ _ no }

pub returns-then-process-ge8 : goal.returns-then-process-ge8
returns-then-process-ge8 c = let no = past_last 8 _ _ c.if-words-ne11844.false c.if-process-ge8.true in record { value = unanswered _ _ _ no; left = left_kept _ _ _ no }

pub returns-in_default : goal.returns-in_default
returns-in_default c = let yes = there 8 _ _ c.if-words-ne11844.false c.if-process-ge8.false in record { value = answered _ _ _ _ yes (ap mapped_one (sym c.in_default.is ∙ c.unmap.ensures.value)); left = left_changed _ _ _ _ yes c.unmap.ensures.words_after }

pub returns : goal.returns
returns c = let yes = there 8 _ _ c.if-words-ne11844.false c.if-process-ge8.false in record { value = answered _ _ _ _ yes (ap mapped_one (sym c.in-Some.is ∙ c.unmap.ensures.value)); left = left_changed _ _ _ _ yes c.unmap.ensures.words_after }
