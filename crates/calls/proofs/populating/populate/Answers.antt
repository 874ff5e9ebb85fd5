-- `populate`: the soundness test, then the core.
use borrow.Author.Rules.{rules}
use Rattle.std.specs.Prelude.{◌≡◌, Err}
use mathlib.Core.Path.{sym, ◌∙◌}
use Rattle.calls.specs.AnsweredLaws.{sound_length, sound_state, untested_whole, tested, done_with}
use Rattle.calls.specs.UnsoundLaws.{populate_unsound}
use Rattle.calls.proofs.populating.populate.Goals as goal

pub returns-in_err-check_sound : goal.returns-in_err-check_sound
returns-in_err-check_sound c = let e : c.from_residual.result ≡ Err c.in_err-check_sound.field-0.0 = search rules in let the = untested_whole _ _ _ c.check_sound.ensures _ (λ s e. populate_unsound s e _ _ _ _) _ c.in_err-check_sound.was in record { value = rw e the.0; leaves = the.1 }

pub populate_core-requires : goal.populate_core-requires
populate_core-requires c = let told = tested _ _ _ c.check_sound.ensures c.in_ok-check_sound.was in record { words_len = sound_length _ _ _ told; files_value = sound_state _ _ _ told }

pub returns : goal.returns
returns c = let the = done_with _ _ _ (tested _ _ _ c.check_sound.ensures c.in_ok-check_sound.was) _ _ _ _ _ c.populate_core.ensures in record { value = the.0; leaves = the.1 }
