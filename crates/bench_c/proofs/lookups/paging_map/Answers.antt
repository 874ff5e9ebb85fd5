-- `paging_map` maps where there is room, and leaves other words as they are.
use Rattle.std.proofs.Common.{sym, ap, ◌∙◌}
use Rattle.model.specs.Create.{one}
use Rattle.bench_c.specs.LookupsOnLaws.{there, no_machine, past_last, answered, unanswered, left_changed, left_kept}
use Rattle.bench_c.proofs.lookups.paging_map.Goals as goal

pub returns-then-words-ne11844 : goal.returns-then-words-ne11844
returns-then-words-ne11844 c = let no = no_machine 8 _ _ c.if-words-ne11844.true in record { value = unanswered _ _ _ no; left = left_kept _ _ _ no }

pub returns-then-process-ge8 : goal.returns-then-process-ge8
returns-then-process-ge8 c = let no = past_last 8 _ _ c.if-words-ne11844.false c.if-process-ge8.true in record { value = unanswered _ _ _ no; left = left_kept _ _ _ no }

pub returns-then-map : goal.returns-then-map
returns-then-map c = let yes = there 8 _ _ c.if-words-ne11844.false c.if-process-ge8.false in record { value = answered _ _ _ _ yes (ap one (sym c.if-map.true ∙ c.map.ensures.value)); left = left_changed _ _ _ _ yes c.map.ensures.words_after }

pub returns : goal.returns
returns c = let yes = there 8 _ _ c.if-words-ne11844.false c.if-process-ge8.false in record { value = answered _ _ _ _ yes (ap one (sym c.if-map.false ∙ c.map.ensures.value)); left = left_changed _ _ _ _ yes c.map.ensures.words_after }
