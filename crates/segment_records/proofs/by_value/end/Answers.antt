-- `end` is end_of.
use mathlib.Core.Path.{sym, ◌∙◌}
use native.Mathlib.Omega.{arith}
use Rattle.segment_records.specs.RecordsLaws.{removable_inside, end_held, end_none}
use Rattle.segment_records.proofs.by_value.end.Goals as goal

pub overflow_sub-result : goal.overflow_sub-result
overflow_sub-result c = let h = removable_inside c.args.len c.args.count c.args.at (sym c.removes.ensures ∙ c.if-removes.true) in let l = h.0 in omega arith

pub returns-then-removes : goal.returns-then-removes
returns-then-removes c = end_held c.args.len c.args.count c.args.at _ c.removes.ensures c.if-removes.true

pub returns : goal.returns
returns c = end_none c.args.len c.args.count c.args.at _ c.removes.ensures c.if-removes.false
