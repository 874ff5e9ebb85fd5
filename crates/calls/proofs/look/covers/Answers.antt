-- `covers`: the soundness test, then the core.
use Rattle.std.specs.Prelude.{◌≡◌, Err}
use Rattle.calls.specs.AnsweredLaws.{sound_length, untested, tested, looked}
use Rattle.calls.specs.UnsoundLaws.{covers_unsound}
use borrow.Author.Rules.{rules}
use Rattle.calls.proofs.look.covers.Goals as goal

pub returns-in_err-check_sound : goal.returns-in_err-check_sound
returns-in_err-check_sound c = let e : c.from_residual.result ≡ Err c.in_err-check_sound.field-0.0 = search rules in rw e (untested _ _ _ c.check_sound.ensures _ (λ s e. covers_unsound s e _ _ _) _ c.in_err-check_sound.was)

pub covers_core-requires : goal.covers_core-requires
covers_core-requires c = let told = tested _ _ _ c.check_sound.ensures c.in_ok-check_sound.was in let sized = sound_length _ _ _ told in search rules

pub returns : goal.returns
returns c = looked _ _ _ (tested _ _ _ c.check_sound.ensures c.in_ok-check_sound.was) _ _ _ c.covers_core.ensures
