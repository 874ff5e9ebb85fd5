-- `manager_mark` meets its contract, one law for each way through it.
use mathlib.Core.Path.{◌∙◌}
use mathlib.Core.List.{[]}
use Rattle.segments_c.specs.LentManagerLaws.{mark_is, answered_done, answered_refused}
use Rattle.segments_c.proofs.manager_mark.Goals as goal

pub returns-in-Err : goal.returns-in-Err
returns-in-Err c = answered_refused c.mark_as_reserved.new.words [] c.mark_as_reserved.result _ c.number.result c.in-Err.is c.number.ensures ∙ mark_is c.args.words.now c.mark_as_reserved.new.words c.mark_as_reserved.result c.args.start c.args.len c.mark_as_reserved.ensures

pub returns-in-Ok : goal.returns-in-Ok
returns-in-Ok c = answered_done c.mark_as_reserved.new.words [] c.mark_as_reserved.result c.in-Ok.is ∙ mark_is c.args.words.now c.mark_as_reserved.new.words c.mark_as_reserved.result c.args.start c.args.len c.mark_as_reserved.ensures
