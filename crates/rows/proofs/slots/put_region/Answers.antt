-- `put_region` changes one row of its table and no other table: its stores write the row's words.
use Rattle.rows.specs.RowWordsLaws.{write}
use Rattle.rows.specs.PutsLaws.{put_region}
use lib.ListN.{length-set}
use native.Mathlib.Omega.{arith}
use Rattle.rows.proofs.slots.put_region.Goals as goal

pub bounds-words-at-2 : goal.bounds-words-at-2
bounds-words-at-2 c = simp length-set (omega arith)

pub bounds-words-at-3 : goal.bounds-words-at-3
bounds-words-at-3 c = simp length-set (omega arith)

pub bounds-words-at-4 : goal.bounds-words-at-4
bounds-words-at-4 c = simp length-set (omega arith)

pub bounds-words-at-5 : goal.bounds-words-at-5
bounds-words-at-5 c = simp length-set (omega arith)

pub bounds-words-at-6 : goal.bounds-words-at-6
bounds-words-at-6 c = simp length-set (omega arith)

pub bounds-words-at-7 : goal.bounds-words-at-7
bounds-words-at-7 c = simp length-set (omega arith)

pub bounds-words-at-8 : goal.bounds-words-at-8
bounds-words-at-8 c = simp length-set (omega arith)

pub bounds-words-at-9 : goal.bounds-words-at-9
bounds-words-at-9 c = simp length-set (omega arith)

pub bounds-words-at-10 : goal.bounds-words-at-10
bounds-words-at-10 c = simp length-set (omega arith)

pub bounds-words-at-11 : goal.bounds-words-at-11
bounds-words-at-11 c = simp length-set (omega arith)

pub bounds-words-at-12 : goal.bounds-words-at-12
bounds-words-at-12 c = simp length-set (omega arith)

pub shape_of-words : goal.shape_of-words
shape_of-words c = simp length-set

pub returns : goal.returns
unfolding write
returns c = put_region _ c.requires.words_len _ _ c.requires.i_bound
