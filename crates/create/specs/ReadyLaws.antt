-- What the searches and the puts ask of a sound machine.
use Rattle.std.specs.Prelude.{◌≡◌, List, ℕ, ◌<◌, Option}
use Rattle.std.proofs.Common.{ap, ◌∙◌, arith}
use Rattle.laws.specs.TellsLaws.{told}
use Rattle.model.specs.declared.Place.{Place}
use Rattle.model.specs.Layout.{machine}
use Rattle.model.specs.Machine.{process_at}
use Rattle.model.specs.Create.{spot}
use Rattle.model.specs.Sound.{Sound, Ordered}
use Rattle.model.specs.SoundLaws.{tells_processes}
use Rattle.model.specs.RecordLaws.{process_tells, sound_tells}
use Rattle.rows.specs.LentMemory.{state_of, SoundWords, SoundFrames}
use Rattle.lookup.specs.LookupsLaws.{processes_length}
use Rattle.backing.specs.Ready.{Ready}
use Rattle.backing.specs.BackingLaws.{sound_ready}
use Rattle.reserve.specs.LowestSpot.{ProcessesFit}

pub frames_words : {w f : List ℕ} → SoundFrames w f → SoundWords w
frames_words {w} {f} s = record { frames = f; files = s.files; sound = s.sound }

module _ (w : List ℕ) (s : SoundWords w) where
  sound : Sound (state_of w s.frames s.files)
  sound = (sound_tells (state_of w s.frames s.files)).yes s.sound

  words_processes : ProcessesFit (machine w)
  words_processes = told (tells_processes (machine w) _ _ (process_tells (machine w))) sound.r6.processes

  -- the spot that a search finds is the model's
  pub words_spot :
      (p : ℕ) (place : Place) (len n : ℕ) (x : Option ℕ) → (ProcessesFit (machine w) → x ≡ spot (machine w) p place len) → len ≡ n → x ≡ spot (machine w) p place n
  words_spot p place len n x e l = e words_processes ∙ ap (λ (k : ℕ). spot (machine w) p place k) l

  pub words_ready : Ready (machine w)
  words_ready = sound_ready sound

  pub words_ordered : (p : ℕ) → p < 8 → Ordered (machine w) p (process_at (machine w) p)
  words_ordered p h = sound.r6.ordered p (rw processes_length (omega arith))
