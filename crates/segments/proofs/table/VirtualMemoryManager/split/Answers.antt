-- `VirtualMemoryManager::split` is split_call: one law a way.
use native.Mathlib.Omega.{arith}
use Rattle.segments.specs.CallLaws.{split_refused, split_absent, split_full, split_place, split_first, split_second, split_done, point_is, point_most}
use Rattle.segments.proofs.table.VirtualMemoryManager.split.Goals as goal

pub returns-in-Err : goal.returns-in-Err
returns-in-Err c = split_refused _ c.args.segment c.args.at _ c.split_point.ensures _ c.in-Err.is

pub place-requires : goal.place-requires
place-requires c = point_most _ c.args.segment c.args.at _ c.split_point.ensures c.in_default.is

pub returns-in_default-place : goal.returns-in_default-place
returns-in_default-place c = split_absent _ c.args.segment c.args.at _ c.split_point.ensures c.in_default.is _ c.place.ensures c.in_default-place.is

pub returns-then-self-ge64 : goal.returns-then-self-ge64
returns-then-self-ge64 c = split_full _ c.args.segment c.args.at _ c.split_point.ensures c.in_default.is _ c.place.ensures _ c.in-Some.is c.if-self-ge64.true

pub overflow_sub-below : goal.overflow_sub-below
overflow_sub-below c = let p = point_is _ c.args.segment c.args.at _ c.split_point.ensures c.in_default.is in omega arith

pub overflow_sub-high : goal.overflow_sub-high
overflow_sub-high c = let p = point_is _ c.args.segment c.args.at _ c.split_point.ensures c.in_default.is in omega arith

pub remove_at-requires : goal.remove_at-requires
remove_at-requires c = record { count_bound = point_most _ c.args.segment c.args.at _ c.split_point.ensures c.in_default.is; at_lt_count = split_place _ c.args.segment c.args.at _ c.split_point.ensures c.in_default.is _ c.place.ensures _ c.in-Some.is c.well_formed.0.1.1.1.1.1.0.1.0.1 c.if-self-ge64.false }

pub insert-requires : goal.insert-requires
insert-requires c = split_first _ c.args.segment c.args.at _ c.split_point.ensures c.in_default.is _ c.place.ensures _ c.in-Some.is c.well_formed.0.1.1.1.1.1.0.1.0.1 c.if-self-ge64.false _ c.remove_at.ensures

pub insert-requires-2 : goal.insert-requires-2
insert-requires-2 c = split_second _ c.args.segment c.args.at _ c.split_point.ensures c.in_default.is _ c.place.ensures _ c.in-Some.is c.well_formed.0.1.1.1.1.1.0.1.0.1 c.if-self-ge64.false _ _ c.remove_at.ensures c.insert.ensures

pub returns : goal.returns
returns c = split_done _ c.args.segment c.args.at _ c.split_point.ensures c.in_default.is _ c.place.ensures _ c.in-Some.is c.well_formed.0.1.1.1.1.1.0.1.0.1 c.if-self-ge64.false _ _ _ c.remove_at.ensures c.insert.ensures c.insert-2.ensures
