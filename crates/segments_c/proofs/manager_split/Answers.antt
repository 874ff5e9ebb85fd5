-- `manager_split` meets its contract, one law for each way through it.
use mathlib.Core.Path.{◌∙◌}
use Rattle.segments_c.specs.LentManager.{split_on}
use Rattle.segments_c.specs.LentManagerLaws.{other_words_out, other_out, split_is, split_parts, split_no}
use Rattle.segments_c.proofs.manager_split.Goals as goal

pub returns-then-words-ne131 : goal.returns-then-words-ne131
unfolding split_on
returns-then-words-ne131 c = other_words_out c.args.words.now c.args.out.now _ c.if-words-ne131.true

pub returns-then-out-ne4 : goal.returns-then-out-ne4
unfolding split_on
returns-then-out-ne4 c = other_out c.args.words.now c.args.out.now _ c.if-words-ne131.false c.if-out-ne4.true

pub returns-in-Err : goal.returns-in-Err
returns-in-Err c = split_no c.split.new.words c.put_out.new.out c.split.result _ c.number.result c.in-Err.is c.number.ensures c.put_out.ensures ∙ split_is c.args.words.now c.split.new.words c.args.out.now c.if-words-ne131.false c.if-out-ne4.false c.args.start c.args.len c.args.at c.split.result c.split.ensures

pub returns-in-Ok : goal.returns-in-Ok
returns-in-Ok c = split_parts c.split.new.words c.put_out-in-Ok.new.out c.split.result _ _ c.in-Ok.is c.put_out-in-Ok.ensures ∙ split_is c.args.words.now c.split.new.words c.args.out.now c.if-words-ne131.false c.if-out-ne4.false c.args.start c.args.len c.args.at c.split.result c.split.ensures
