-- `load_core`: the byte that is granted, or why there is none.
use Rattle.std.proofs.lemmas.Result.{err_from_is_err_and}
use mathlib.Core.Bool.{false}
use Rattle.access.specs.AccessLaws.{access_no, granted_inside, load_refused, load_answered}
use borrow.Author.Rules.{rules}
use Rattle.access.proofs.load_core.Goals as goal

pub returns-in_err-place : goal.returns-in_err-place
returns-in_err-place c =
    let p = err_from_is_err_and c.from_residual.result c.from_residual.ensures.1 in
    rw (p.1, p.2) (load_refused _ _ _ _ _ (access_no _ _ _ _ c.granted_byte.ensures c.in_err-place.was))

pub byte_at-requires : goal.byte_at-requires
byte_at-requires c = let inside = granted_inside _ _ _ _ false c.requires.sound_frames _ _ c.granted_byte.ensures c.in_ok-place.was in search rules

pub returns : goal.returns
returns c = load_answered _ _ _ _ _ _ c.granted_byte.ensures c.in_ok-place.was _ c.byte_at.ensures
