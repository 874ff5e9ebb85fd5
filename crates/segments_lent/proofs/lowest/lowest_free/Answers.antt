-- `lowest_free` is the lowest free start: one law a way.
use native.Mathlib.Omega.{arith}
use Rattle.std.proofs.Common.{rules}
use Rattle.segments.specs.CallLaws.{lowest_zero, lowest_more, sound_arena_last}
use Rattle.segments_lent.specs.LentWords.{manager_of}
use Rattle.segments_lent.specs.OnePassLaws.{search_lowest}
use Rattle.segments_lent.proofs.lowest.lowest_free.Goals as goal

pub returns-then-len-eq0 : goal.returns-then-len-eq0
returns-then-len-eq0 c = lowest_zero (manager_of c.args.words.now) c.args.len c.if-len-eq0.true

pub returns-then-words-len : goal.returns-then-words-len
returns-then-words-len c = lowest_more (manager_of c.args.words.now) c.args.len c.if-len-eq0.false c.if-words-len.true

pub overflow_add-words : goal.overflow_add-words
overflow_add-words c = let l = sound_arena_last (manager_of c.args.words.now) c.requires.words_value (search rules) in omega arith

pub search_rows-requires : goal.search_rows-requires
search_rows-requires c = record { words_len = c.requires.words_len; words_value = c.requires.words_value; len_nonzero = omega arith; len_bound = omega arith }

pub returns : goal.returns
returns c = search_lowest (manager_of c.args.words.now) c.args.len c.if-len-eq0.false c.if-words-len.false _ c.search_rows.ensures
