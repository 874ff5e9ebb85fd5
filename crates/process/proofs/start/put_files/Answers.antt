-- The answers for `put_files`.
use native.Mathlib.Omega.{arith}
use Rattle.process.specs.StartLaws.{files_first, files_more, files_all}
use borrow.Author.Rules.{rules}
use Rattle.process.proofs.start.put_files.Goals as goal

pub loop-i-init : goal.loop-i-init
loop-i-init c = files_first _ c.args.rows.now c.requires.words_len

pub file_in-file-requires : goal.file_in-file-requires
file_in-file-requires c = let more = c.loop-i-test.true in omega arith

pub put_file-requires : goal.put_file-requires
put_file-requires c = let more = c.loop-i-test.true in let few = c.requires.rows_len_bound in record { words_len = c.loop-i.invariant.0; i_bound = omega arith }

pub loop-i-preserved : goal.loop-i-preserved
loop-i-preserved c = files_more _ c.args.rows.now c.loop-i.i c.loop-i.words _ _ c.loop-i.invariant c.loop-i-test.true c.requires.rows_len_bound c.file_in-file.ensures c.put_file.auto.words c.put_file.ensures

pub shape_of-words : goal.shape_of-words
shape_of-words c = let sized = c.loop-i.invariant.0 in let before = c.requires.words_len in search rules

pub returns : goal.returns
returns c = files_all _ c.args.rows.now c.loop-i.i c.loop-i.words c.loop-i.invariant c.loop-i-test.false
