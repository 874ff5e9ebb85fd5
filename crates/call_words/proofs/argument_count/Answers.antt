-- `argument_count` meets its contract: the number's row, or none.
use Rattle.call_words.specs.CallOf.{count_of}
use Rattle.call_words.specs.CallOfLaws.{past_counts}
use borrow.Author.Rules.{rules}
use Rattle.call_words.proofs.argument_count.Goals as goal

pub returns-then-number-ge23 : goal.returns-then-number-ge23
returns-then-number-ge23 c = past_counts _ c.if-number-ge23.true

pub returns : goal.returns
unfolding count_of
returns c = search rules
