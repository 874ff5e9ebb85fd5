-- `clone_region`: the soundness test, then the core.
use Rattle.std.specs.Prelude.{◌≡◌, Err}
use Rattle.calls.specs.AnsweredLaws.{sound_length, sound_frames, untested_whole, tested, done}
use Rattle.calls.specs.UnsoundLaws.{clone_region_unsound}
use borrow.Author.Rules.{rules}
use Rattle.calls.proofs.clones.clone_region.Goals as goal

pub returns-in_err-check_sound : goal.returns-in_err-check_sound
returns-in_err-check_sound c = let e : c.from_residual.result ≡ Err c.in_err-check_sound.field-0.0 = search rules in let the = untested_whole _ _ _ c.check_sound.ensures _ (λ s e. clone_region_unsound s e _ _ _) _ c.in_err-check_sound.was in record { value = rw e the.0; leaves = the.1 }

pub clone_region_core-requires : goal.clone_region_core-requires
clone_region_core-requires c = let told = tested _ _ _ c.check_sound.ensures c.in_ok-check_sound.was in let sized = sound_length _ _ _ told in let lent = sound_frames _ _ _ told in record { words_len = search rules; sound_frames = search rules }

pub returns : goal.returns
returns c = let the = done _ _ _ (tested _ _ _ c.check_sound.ensures c.in_ok-check_sound.was) _ _ _ _ _ c.clone_region_core.ensures in record { value = the.0; leaves = the.1 }
