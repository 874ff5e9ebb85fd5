-- `take_frame` claims the pool's next frame, where there is one.
use Rattle.model.specs.Layout.{machine}
use Rattle.backing.specs.BackingWayLaws.{next_taken, none_taken}
use Rattle.backing.proofs.holders.take_frame.Goals as goal

pub returns-then-next-rows : goal.returns-then-next-rows
returns-then-next-rows c = let the = next_taken (machine c.args.words.now) _ c.pool-before.ensures _ c.frame_rows-rows.ensures.value c.if-next-rows.true _ c.claim.ensures in record { result_value = the.0; words_after = the.1 }

pub returns : goal.returns
returns c = let the = none_taken (machine c.args.words.now) _ c.pool-before.ensures _ c.frame_rows-rows.ensures.value c.if-next-rows.false in record { result_value = the.0; words_after = the.1 }
