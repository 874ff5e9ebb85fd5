-- `tables_covers` answers what is found, or that nothing is.
use Rattle.std.proofs.Common.{sym, ap, ◌∙◌}
use Rattle.model.specs.Create.{one}
use Rattle.bench_c.specs.LookupsOnLaws.{there, no_machine, past_last, answered, unanswered}
use Rattle.bench_c.proofs.lookups.tables_covers.Goals as goal

pub returns-then-words-ne11844 : goal.returns-then-words-ne11844
returns-then-words-ne11844 c = λ sound. unanswered _ _ _ (no_machine 8 _ _ c.if-words-ne11844.true)

pub returns-then-process-ge8 : goal.returns-then-process-ge8
returns-then-process-ge8 c = λ sound. unanswered _ _ _ (past_last 8 _ _ c.if-words-ne11844.false c.if-process-ge8.true)

pub returns-then-covers : goal.returns-then-covers
returns-then-covers c = λ sound. answered _ _ _ _ (there 8 _ _ c.if-words-ne11844.false c.if-process-ge8.false) (ap one (sym c.if-covers.true ∙ c.covers.ensures sound))

pub returns : goal.returns
returns c = λ sound. answered _ _ _ _ (there 8 _ _ c.if-words-ne11844.false c.if-process-ge8.false) (ap one (sym c.if-covers.false ∙ c.covers.ensures sound))
