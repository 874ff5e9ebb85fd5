-- The calls that look at a machine, loads and stores keep it sound.
use Rattle.std.specs.Prelude.{◌≡◌, List, ℕ, length}
use Rattle.std.proofs.Common.{◌∙◌, length-set}
use Rattle.model.specs.Machine.{State, with_frames}
use Rattle.model.specs.Access.{stored}
use Rattle.model.specs.Calls as calls
use Rattle.model.specs.Run.{Call, call, step}
use Rattle.model.specs.Sound.{Sound}
use Rattle.keeping.specs.GuardedKept.{guarded_kept}

-- other bytes in the frames
pub frames_kept : (s : State) (l : List ℕ) → length l ≡ length s.frames → Sound s → Sound (with_frames s l)
frames_kept s l e sound =
    let z = sound.r6.sized in
    record {
      r1 = sound.r1;
      r2 = sound.r2;
      r3 = sound.r3;
      r4 = sound.r4;
      r5 = sound.r5;
      r6 = record {
        sized = record {
          processes = z.processes;
          regions = z.regions;
          order = z.order;
          mapped = z.mapped;
          entries = z.entries;
          backings = z.backings;
          files = z.files;
          frame_count = z.frame_count;
          file_count = z.file_count;
          frames = e ∙ z.frames;
        };
        files = λ i h. record { inside = (sound.r6.files i h).inside; free = (sound.r6.files i h).free };
        processes = sound.r6.processes;
        ordered = sound.r6.ordered;
        paged = sound.r6.paged;
        regions = sound.r6.regions;
        entries = sound.r6.entries;
        once_a_page = sound.r6.once_a_page;
        one_page = sound.r6.one_page;
        free_backings = sound.r6.free_backings;
      };
    }

module _ (s : State) (sound : Sound s) where
  pub sound_kept : Sound (step Call.sound s)
  unfolding step call calls.sound
  sound_kept = guarded_kept s _ _ _ sound (λ k. sound)

  pub covers_kept : (p a e : ℕ) → Sound (step (Call.covers p a e) s)
  unfolding step call calls.covers
  covers_kept p a e = guarded_kept s _ _ _ sound (λ k. sound)

  pub region_kept : (p a : ℕ) → Sound (step (Call.region p a) s)
  unfolding step call calls.region
  region_kept p a = guarded_kept s _ _ _ sound (λ k. sound)

  pub regions_kept : (p : ℕ) → Sound (step (Call.regions p) s)
  unfolding step call calls.regions
  regions_kept p = guarded_kept s _ _ _ sound (λ k. sound)

  pub load_kept : (p a : ℕ) → Sound (step (Call.load p a) s)
  unfolding step call calls.load
  load_kept p a = guarded_kept s _ _ _ sound (λ k. sound)

  pub store_kept : (p a b : ℕ) → Sound (step (Call.store p a b) s)
  unfolding step call calls.store stored
  store_kept p a b = guarded_kept s _ _ _ sound (λ k. frames_kept s _ (simp length-set) sound)
