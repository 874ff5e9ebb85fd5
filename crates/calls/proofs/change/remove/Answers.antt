-- `remove`: the soundness test, then the core.
use Rattle.std.specs.Prelude.{◌≡◌, Err}
use Rattle.calls.specs.AnsweredLaws.{sound_length, sound_words, untested_whole, tested, done}
use Rattle.calls.specs.UnsoundLaws.{remove_unsound}
use borrow.Author.Rules.{rules}
use Rattle.calls.proofs.change.remove.Goals as goal

pub returns-in_err-check_sound : goal.returns-in_err-check_sound
returns-in_err-check_sound c = let e : c.from_residual.result ≡ Err c.in_err-check_sound.field-0.0 = search rules in let the = untested_whole _ _ _ c.check_sound.ensures _ (λ s e. remove_unsound s e _ _) _ c.in_err-check_sound.was in record { value = rw e the.0; leaves = the.1 }

pub remove_core-requires : goal.remove_core-requires
remove_core-requires c = let told = tested _ _ _ c.check_sound.ensures c.in_ok-check_sound.was in let sized = sound_length _ _ _ told in let lent = sound_words _ _ _ told in record { words_len = search rules; sound_words = search rules }

pub returns : goal.returns
returns c = let the = done _ _ _ (tested _ _ _ c.check_sound.ensures c.in_ok-check_sound.was) _ _ _ _ _ (c.remove_core.ensures _) in record { value = the.0; leaves = the.1 }
