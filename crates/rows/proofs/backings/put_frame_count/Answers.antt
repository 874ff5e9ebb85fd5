-- `put_frame_count` changes its words and no table.
use Rattle.rows.specs.RowWordsLaws.{write}
use Rattle.rows.specs.PutsLaws.{put_frame_count}
use Rattle.rows.proofs.backings.put_frame_count.Goals as goal

pub returns : goal.returns
unfolding write
returns c = put_frame_count _ c.requires _
