-- `mark_as_reserved` is mark_lent: one law a way.
use Rattle.std.proofs.lemmas.Result.{err_from_is_err_and}
use mathlib.Core.Path.{sym, ◌∙◌}
use native.Mathlib.Omega.{arith}
use Rattle.segments_lent.specs.LentCallsLaws.{mark_refused}
use Rattle.segments_lent.specs.LentWaysLaws.{lent_most, mark_reserved, mark_where, mark_again, mark_full, mark_done}
use Rattle.segments_lent.proofs.manager.mark_as_reserved.Goals as goal

pub returns-in_err-checked : goal.returns-in_err-checked
returns-in_err-checked c = let p = err_from_is_err_and c.from_residual.result c.from_residual.ensures.1 in rw (p.1, p.2) (mark_refused c.args.words.now c.args.segment _ c.checked.ensures _ c.in_err-checked.was)

pub overlaps_any-requires : goal.overlaps_any-requires
overlaps_any-requires c = sym c.checked.ensures ∙ c.in_ok-checked.was

pub returns-then-overlaps_any : goal.returns-then-overlaps_any
returns-then-overlaps_any c = mark_reserved c.args.words.now c.args.segment _ c.checked.ensures c.in_ok-checked.was _ c.overlaps_any.ensures c.if-overlaps_any.true

pub place_in-requires : goal.place_in-requires
place_in-requires c = let the = lent_most c.args.words.now c.args.segment _ c.checked.ensures c.in_ok-checked.was in record { words_len = the.0; words_bound = the.1 }

pub returns-in_default : goal.returns-in_default
returns-in_default c = mark_again c.args.words.now c.args.segment _ c.checked.ensures c.in_ok-checked.was _ c.place_in.ensures _ _ c.overlaps_any.ensures c.if-overlaps_any.false c.in_default.is

pub bounds-words-2 : goal.bounds-words-2
bounds-words-2 c = let m = lent_most c.args.words.now c.args.segment _ c.checked.ensures c.in_ok-checked.was in omega arith

pub returns-then-words-ge64 : goal.returns-then-words-ge64
returns-then-words-ge64 c = mark_full c.args.words.now c.args.segment _ c.checked.ensures c.in_ok-checked.was _ c.place_in.ensures _ _ c.overlaps_any.ensures c.if-overlaps_any.false c.in-Err.is c.if-words-ge64.true

pub insert_at-requires : goal.insert_at-requires
insert_at-requires c = record { words_len = (lent_most c.args.words.now c.args.segment _ c.checked.ensures c.in_ok-checked.was).0; words_bound = c.if-words-ge64.false; at_value = mark_where c.args.words.now c.args.segment _ c.checked.ensures c.in_ok-checked.was _ c.place_in.ensures _ c.in-Err.is }

pub returns : goal.returns
returns c = mark_done c.args.words.now c.args.segment _ c.checked.ensures c.in_ok-checked.was _ c.place_in.ensures _ _ c.overlaps_any.ensures c.if-overlaps_any.false c.in-Err.is c.if-words-ge64.false c.insert_at.new.words c.insert_at.auto.words c.insert_at.ensures
