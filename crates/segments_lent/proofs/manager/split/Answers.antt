-- `split` is split_lent: one law a way.
use Rattle.std.proofs.lemmas.Result.{err_from_is_err_and}
use mathlib.Core.Path.{◌∙◌}
use native.Mathlib.Omega.{arith}
use Rattle.segments_lent.specs.LentCallsLaws.{split_refused}
use Rattle.segments_lent.specs.LentWaysLaws.{point_most, point_inside, split_absent, split_full, split_place, split_second, split_done}
use Rattle.segments_lent.proofs.manager.split.Goals as goal

pub returns-in_err-split_point : goal.returns-in_err-split_point
returns-in_err-split_point c = let p = err_from_is_err_and c.from_residual.result c.from_residual.ensures.1 in rw (p.1, p.2) (split_refused c.args.words.now c.args.segment c.args.at _ c.split_point.ensures _ c.in_err-split_point.was)

pub place_in-requires : goal.place_in-requires
place_in-requires c = let the = point_most c.args.words.now c.args.segment c.args.at _ c.split_point.ensures c.in_ok-split_point.was in record { words_len = the.0; words_bound = the.1 }

pub returns-in_default : goal.returns-in_default
returns-in_default c = split_absent c.args.words.now c.args.segment c.args.at _ c.split_point.ensures c.in_ok-split_point.was _ c.place_in.ensures _ c.in_default.is

pub bounds-words-2 : goal.bounds-words-2
bounds-words-2 c = let m = point_most c.args.words.now c.args.segment c.args.at _ c.split_point.ensures c.in_ok-split_point.was in omega arith

pub returns-then-words-ge64 : goal.returns-then-words-ge64
returns-then-words-ge64 c = split_full c.args.words.now c.args.segment c.args.at _ c.split_point.ensures c.in_ok-split_point.was _ c.place_in.ensures _ c.in-Ok.is c.if-words-ge64.true

pub overflow_sub-below : goal.overflow_sub-below
overflow_sub-below c = let i = point_inside c.args.words.now c.args.segment c.args.at _ c.split_point.ensures c.in_ok-split_point.was in omega arith

pub overflow_sub-high : goal.overflow_sub-high
overflow_sub-high c = let i = point_inside c.args.words.now c.args.segment c.args.at _ c.split_point.ensures c.in_ok-split_point.was in omega arith

pub put_row-requires : goal.put_row-requires
put_row-requires c = let m = point_most c.args.words.now c.args.segment c.args.at _ c.split_point.ensures c.in_ok-split_point.was in let k = split_place c.args.words.now c.args.segment c.args.at _ c.split_point.ensures c.in_ok-split_point.was _ c.place_in.ensures _ c.in-Ok.is c.if-words-ge64.false in record { words_len = m.0; i_bound = omega arith }

pub insert-requires : goal.insert-requires
insert-requires c = let m = point_most c.args.words.now c.args.segment c.args.at _ c.split_point.ensures c.in_ok-split_point.was in record { words_len = c.put_row.auto.words ∙ m.0; words_bound = split_second c.args.words.now c.args.segment c.args.at _ c.split_point.ensures c.in_ok-split_point.was _ c.place_in.ensures _ c.in-Ok.is c.if-words-ge64.false c.put_row.new.words c.put_row.ensures }

pub returns : goal.returns
returns c = split_done c.args.words.now c.args.segment c.args.at _ c.split_point.ensures c.in_ok-split_point.was _ c.place_in.ensures _ c.in-Ok.is c.if-words-ge64.false c.put_row.new.words c.put_row.ensures c.insert.new.words (c.insert.auto.words ∙ c.put_row.auto.words) c.insert.ensures
