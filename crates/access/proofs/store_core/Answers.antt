-- `store_core`: the byte that is granted is put, or there is none.
use Rattle.std.proofs.lemmas.Result.{err_from_is_err_and}
use mathlib.Core.Bool.{true}
use Rattle.access.specs.AccessLaws.{access_no, granted_inside, store_refused, store_done}
use borrow.Author.Rules.{rules}
use Rattle.access.proofs.store_core.Goals as goal

pub returns-in_err-place : goal.returns-in_err-place
returns-in_err-place c =
    let p = err_from_is_err_and c.from_residual.result c.from_residual.ensures.1 in
    rw (p.1, p.2) (store_refused _ _ _ _ _ _ (access_no _ _ _ _ c.granted_byte.ensures c.in_err-place.was))

pub put_byte-requires : goal.put_byte-requires
put_byte-requires c = let inside = granted_inside _ _ _ _ true c.requires.sound_frames _ _ c.granted_byte.ensures c.in_ok-place.was in search rules

pub returns : goal.returns
returns c = store_done _ _ _ _ _ _ _ c.granted_byte.ensures c.in_ok-place.was _ c.put_byte.ensures
