-- `start`: the words, then the lengths, then the empty machine is put.
use mathlib.Core.Path.{sym, ◌∙◌}
use Rattle.process.specs.StartLaws.{other_words, bad_start, good_start, few_files}
use Rattle.process.proofs.start.start.Goals as goal

pub returns-then-words-ne-WORD_COUNT : goal.returns-then-words-ne-WORD_COUNT
returns-then-words-ne-WORD_COUNT c = other_words _ c.args.frames.now c.args.files.now c.args.rows.now c.if-words-ne-WORD_COUNT.true

pub returns-then-is_bad_size : goal.returns-then-is_bad_size
returns-then-is_bad_size c = bad_start _ c.args.frames.now c.args.files.now c.args.rows.now c.if-words-ne-WORD_COUNT.false (sym c.is_bad_size.ensures ∙ c.if-is_bad_size.true)

pub put_empty-requires : goal.put_empty-requires
put_empty-requires c = record { words_len = c.if-words-ne-WORD_COUNT.false; rows_len_bound = few_files c.args.words.now c.args.frames.now c.args.files.now c.args.rows.now (sym c.is_bad_size.ensures ∙ c.if-is_bad_size.false) }

pub returns : goal.returns
returns c = good_start _ c.args.frames.now c.args.files.now c.args.rows.now c.if-words-ne-WORD_COUNT.false (sym c.is_bad_size.ensures ∙ c.if-is_bad_size.false) _ c.put_empty.ensures
