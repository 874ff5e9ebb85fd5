-- `reserve_bytes` is reserve_lent: one law a way.
use Rattle.std.proofs.lemmas.Result.{err_from_is_err_and}
use mathlib.Core.Path.{sym, ◌∙◌}
use Rattle.laws.specs.ResultLaws.{ok_or_some, ok_or_none}
use native.Mathlib.Omega.{arith}
use Rattle.segments_lent.specs.LentCallsLaws.{reserve_unsound}
use Rattle.segments_lent.specs.LentWaysLaws.{lent_both, reserve_no_space, reserve_full, reserve_done}
use Rattle.segments_lent.proofs.manager.reserve_bytes.Goals as goal

pub returns-then-not-is_sound : goal.returns-then-not-is_sound
returns-then-not-is_sound c = reserve_unsound c.args.words.now c.args.len _ c.is_sound.ensures c.if-not-is_sound.true

pub lowest_free-requires : goal.lowest_free-requires
lowest_free-requires c = let the = lent_both c.args.words.now c.args.len _ c.is_sound.ensures c.if-not-is_sound.false in record { words_len = the.0; words_value = the.1 }

pub returns-in_err-start : goal.returns-in_err-start
returns-in_err-start c = let p = err_from_is_err_and c.from_residual.result c.from_residual.ensures.1 in let n = ok_or_none _ _ (sym c.ok_or.ensures.value ∙ c.in_err-start.was) in rw (p.1, p.2, n.1) (reserve_no_space c.args.words.now c.args.len _ c.is_sound.ensures c.if-not-is_sound.false _ c.lowest_free.ensures n.0)

pub bounds-words-2 : goal.bounds-words-2
bounds-words-2 c = let k = lent_both c.args.words.now c.args.len _ c.is_sound.ensures c.if-not-is_sound.false in omega arith

pub returns-then-words-ge64 : goal.returns-then-words-ge64
returns-then-words-ge64 c = reserve_full c.args.words.now c.args.len _ c.is_sound.ensures c.if-not-is_sound.false _ c.lowest_free.ensures _ _ (ok_or_some _ _ (sym c.ok_or.ensures.value ∙ c.in_ok-start.was)) c.if-words-ge64.true

pub insert-requires : goal.insert-requires
insert-requires c = record { words_len = (lent_both c.args.words.now c.args.len _ c.is_sound.ensures c.if-not-is_sound.false).0; words_bound = c.if-words-ge64.false }

pub returns : goal.returns
returns c = reserve_done c.args.words.now c.args.len _ c.is_sound.ensures c.if-not-is_sound.false _ c.lowest_free.ensures _ _ (ok_or_some _ _ (sym c.ok_or.ensures.value ∙ c.in_ok-start.was)) c.if-words-ge64.false c.insert.new.words c.insert.auto.words c.insert.ensures
