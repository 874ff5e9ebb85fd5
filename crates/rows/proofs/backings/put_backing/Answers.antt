-- `put_backing` changes one row of its table and no other table: its stores write the row's words.
use Rattle.rows.specs.RowWordsLaws.{write}
use Rattle.rows.specs.PutsLaws.{put_backing}
use lib.ListN.{length-set}
use native.Mathlib.Omega.{arith}
use Rattle.rows.proofs.backings.put_backing.Goals as goal

pub bounds-words-at-2 : goal.bounds-words-at-2
bounds-words-at-2 c = simp length-set (omega arith)

pub returns : goal.returns
unfolding write
returns c = put_backing _ c.requires.words_len _ _ c.requires.i_bound
