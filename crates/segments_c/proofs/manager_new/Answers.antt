-- `manager_new` meets its contract, one law for each way through it.
use mathlib.Core.Path.{◌∙◌}
use mathlib.Core.List.{[]}
use Rattle.segments_c.specs.LentManagerLaws.{new_is, answered_done, answered_refused}
use Rattle.segments_c.proofs.manager_new.Goals as goal

pub returns-in-Err : goal.returns-in-Err
returns-in-Err c = answered_refused c.new.new.words [] c.new.result _ c.number.result c.in-Err.is c.number.ensures ∙ new_is c.args.words.now c.new.new.words c.new.result c.args.start c.args.size c.new.ensures

pub returns-in-Ok : goal.returns-in-Ok
returns-in-Ok c = answered_done c.new.new.words [] c.new.result c.in-Ok.is ∙ new_is c.args.words.now c.new.new.words c.new.result c.args.start c.args.size c.new.ensures
