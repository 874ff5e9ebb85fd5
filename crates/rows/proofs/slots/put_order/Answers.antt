-- `put_order` changes one row of its table and no other table: its stores write the row's words.
use Rattle.rows.specs.RowWordsLaws.{write}
use Rattle.rows.specs.PutsLaws.{put_order}
use Rattle.rows.proofs.slots.put_order.Goals as goal

pub returns : goal.returns
unfolding write
returns c = put_order _ c.requires.words_len _ _ c.requires.i_bound
