-- `manager_reserve` meets its contract, one law for each way through it.
use mathlib.Core.Path.{◌∙◌}
use Rattle.segments_c.specs.LentManager.{reserve_on}
use Rattle.segments_c.specs.LentManagerLaws.{other_words_out, other_out, reserve_is, reserved_at, reserved_refused}
use Rattle.segments_c.proofs.manager_reserve.Goals as goal

pub returns-then-words-ne131 : goal.returns-then-words-ne131
unfolding reserve_on
returns-then-words-ne131 c = other_words_out c.args.words.now c.args.out.now _ c.if-words-ne131.true

pub returns-then-out-ne4 : goal.returns-then-out-ne4
unfolding reserve_on
returns-then-out-ne4 c = other_out c.args.words.now c.args.out.now _ c.if-words-ne131.false c.if-out-ne4.true

pub returns-in-Err : goal.returns-in-Err
returns-in-Err c = reserved_refused c.reserve_bytes.new.words c.put_out.new.out c.reserve_bytes.result _ c.number.result c.in-Err.is c.number.ensures c.put_out.ensures ∙ reserve_is c.args.words.now c.reserve_bytes.new.words c.args.out.now c.if-words-ne131.false c.if-out-ne4.false c.args.len c.reserve_bytes.result c.reserve_bytes.ensures

pub returns-in-Ok : goal.returns-in-Ok
returns-in-Ok c = reserved_at c.reserve_bytes.new.words c.put_out-in-Ok.new.out c.reserve_bytes.result _ _ c.in-Ok.is c.put_out-in-Ok.ensures ∙ reserve_is c.args.words.now c.reserve_bytes.new.words c.args.out.now c.if-words-ne131.false c.if-out-ne4.false c.args.len c.reserve_bytes.result c.reserve_bytes.ensures
