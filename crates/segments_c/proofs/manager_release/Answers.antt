-- `manager_release` meets its contract, one law for each way through it.
use mathlib.Core.Path.{◌∙◌}
use Rattle.segments_c.specs.LentManager.{release_on}
use Rattle.segments_c.specs.LentManagerLaws.{other_words_out, other_out, release_is, released_at, released_refused}
use Rattle.segments_c.proofs.manager_release.Goals as goal

pub returns-then-words-ne131 : goal.returns-then-words-ne131
unfolding release_on
returns-then-words-ne131 c = other_words_out c.args.words.now c.args.out.now _ c.if-words-ne131.true

pub returns-then-out-ne4 : goal.returns-then-out-ne4
unfolding release_on
returns-then-out-ne4 c = other_out c.args.words.now c.args.out.now _ c.if-words-ne131.false c.if-out-ne4.true

pub returns-in-Err : goal.returns-in-Err
returns-in-Err c = released_refused c.release.new.words c.put_out.new.out c.release.result _ c.number.result c.in-Err.is c.number.ensures c.put_out.ensures ∙ release_is c.args.words.now c.release.new.words c.args.out.now c.if-words-ne131.false c.if-out-ne4.false c.args.start c.args.len c.release.result c.release.ensures

pub returns-in-Ok : goal.returns-in-Ok
returns-in-Ok c = released_at c.release.new.words c.put_out-in-Ok.new.out c.release.result c.in-Ok.held _ c.in-Ok.is (λ e. rw e) (λ e. rw e) c.put_out-in-Ok.ensures ∙ release_is c.args.words.now c.release.new.words c.args.out.now c.if-words-ne131.false c.if-out-ne4.false c.args.start c.args.len c.release.result c.release.ensures
