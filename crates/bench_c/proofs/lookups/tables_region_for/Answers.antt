-- `tables_region_for` answers what is found, or that nothing is.
use Rattle.std.proofs.Common.{sym, ap, ◌∙◌}
use Rattle.bench_c.specs.LookupsOnLaws.{there, no_machine, past_last, answered, unanswered}
use Rattle.bench_c.specs.LookupsOn.{row_or}
use Rattle.bench_c.proofs.lookups.tables_region_for.Goals as goal

pub returns-then-words-ne11844 : goal.returns-then-words-ne11844
returns-then-words-ne11844 c = unanswered _ _ _ (no_machine 8 _ _ c.if-words-ne11844.true)

pub returns-then-process-ge8 : goal.returns-then-process-ge8
returns-then-process-ge8 c = unanswered _ _ _ (past_last 8 _ _ c.if-words-ne11844.false c.if-process-ge8.true)

pub returns-in_default : goal.returns-in_default
returns-in_default c = answered _ _ _ _ (there 8 _ _ c.if-words-ne11844.false c.if-process-ge8.false) (ap (row_or 64) (sym c.in_default.is ∙ c.region_for.ensures))

pub returns : goal.returns
returns c = answered _ _ _ _ (there 8 _ _ c.if-words-ne11844.false c.if-process-ge8.false) (ap (row_or 64) (sym c.in-Some.is ∙ c.region_for.ensures))
