-- `put_file_count` changes its words and no table.
use Rattle.rows.specs.RowWordsLaws.{write}
use Rattle.rows.specs.PutsLaws.{put_file_count}
use Rattle.rows.proofs.files.put_file_count.Goals as goal

pub returns : goal.returns
unfolding write
returns c = put_file_count _ c.requires _
