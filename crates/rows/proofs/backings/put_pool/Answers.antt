-- `put_pool` changes its words and no table.
use Rattle.rows.specs.RowWordsLaws.{write}
use Rattle.rows.specs.PutsLaws.{put_pool}
use Rattle.rows.proofs.backings.put_pool.Goals as goal

pub returns : goal.returns
unfolding write
returns c = put_pool _ c.requires _
