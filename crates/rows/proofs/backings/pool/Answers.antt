-- `pool` reads its words.
use Rattle.model.specs.Layout.{machine, pool_row}
use borrow.Author.Rules.{rules}
use Rattle.rows.proofs.backings.pool.Goals as goal

pub returns : goal.returns
unfolding machine pool_row
returns c = search rules
