-- `release` is release_lent: one law a way.
use Rattle.std.proofs.lemmas.Result.{err_from_is_err_and}
use Rattle.segments_lent.specs.LentCallsLaws.{release_refused}
use Rattle.segments_lent.specs.LentWaysLaws.{lent_most, release_no, release_inside, release_yes}
use Rattle.segments_lent.proofs.manager.release.Goals as goal

pub returns-in_err-checked : goal.returns-in_err-checked
returns-in_err-checked c = let p = err_from_is_err_and c.from_residual.result c.from_residual.ensures.1 in rw (p.1, p.2) (release_refused c.args.words.now c.args.segment _ c.checked.ensures _ c.in_err-checked.was)

pub place_in-requires : goal.place_in-requires
place_in-requires c = let the = lent_most c.args.words.now c.args.segment _ c.checked.ensures c.in_ok-checked.was in record { words_len = the.0; words_bound = the.1 }

pub returns-in_default : goal.returns-in_default
returns-in_default c = release_no c.args.words.now c.args.segment _ c.checked.ensures c.in_ok-checked.was _ c.place_in.ensures _ c.in_default.is

pub remove_at-requires : goal.remove_at-requires
remove_at-requires c = let m = lent_most c.args.words.now c.args.segment _ c.checked.ensures c.in_ok-checked.was in record { words_len = m.0; words_bound = m.1; at_bound = release_inside c.args.words.now c.args.segment _ c.checked.ensures c.in_ok-checked.was _ c.place_in.ensures _ c.in-Ok.is }

pub returns : goal.returns
returns c = release_yes c.args.words.now c.args.segment _ c.checked.ensures c.in_ok-checked.was _ c.place_in.ensures _ c.in-Ok.is c.remove_at.new.words c.remove_at.auto.words c.remove_at.ensures
