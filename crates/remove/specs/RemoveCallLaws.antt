-- Removal of a region and of all of a process, way by way.
use Rattle.std.specs.Prelude.{◌≡◌, List, ℕ, ◌<◌, Ok, Err}
use Rattle.std.proofs.Math.Path.{ap}
use Rattle.std.proofs.Common.{sym, ◌∙◌}
use Rattle.answers.specs.declared.Refusal.{Refusal}
use Rattle.model.specs.Machine.{Machine, with_machine}
use Rattle.model.specs.Layout.{machine}
use Rattle.model.specs.Answers.{first_of, fine}
use Rattle.model.specs.Remove.{remove_region, clear_regions}
use Rattle.model.specs.Refusals.{region_refusals, process_refusals, slot_at}
use Rattle.model.specs.Calls.{remove, clear}
use Rattle.model.specs.RecordLaws.{sound_tells}
use Rattle.rows.specs.LentMemory.{DoesWords, state_of, words_alone}
use Rattle.rows.specs.GuardedLaws.{refused, granted}
use Rattle.lookup.specs.NamedLaws.{process_yes}
use Rattle.remove.specs.Removed.{Removed}
use Rattle.remove.specs.RemovedLaws.{sound_removable}
use Rattle.remove.specs.Cleared.{Cleared}
use Rattle.remove.specs.ClearedLaws.{sound_clearable}

module _ (w : List ℕ) (p a : ℕ) where
  pub remove_refused : (r : Refusal) → Err r ≡ first_of (region_refusals (words_alone w) p a) → DoesWords (λ s. remove s p a) w w (Err r)
  unfolding remove region_refusals
  remove_refused r e f b s = refused (state_of w f b) Err _ _ s r e

  pub remove_done : Ok tt ≡ first_of (region_refusals (words_alone w) p a) → p < 8 → (slot : ℕ) → slot ≡ slot_at (words_alone w) p a → (v : List ℕ) → Removed (machine w) p slot (machine v) → DoesWords (λ s. remove s p a) w v (Ok tt)
  unfolding remove region_refusals
  remove_done e h slot j v gone f b s =
      granted (state_of w f b) Err _ (fine (with_machine (state_of w f b) (remove_region (machine w) p (slot_at (words_alone w) p a)))) s e
      ∙ ap (λ (x : Machine). fine (with_machine (state_of w f b) x)) (sym ((gone (sound_removable (state_of w f b) p ((sound_tells _).yes s) h)).1 ∙ ap (λ (k : ℕ). remove_region (machine w) p k) j))

module _ (w : List ℕ) (p : ℕ) where
  pub clear_refused : (r : Refusal) → Err r ≡ first_of (process_refusals (words_alone w) p) → DoesWords (λ s. clear s p) w w (Err r)
  unfolding clear process_refusals
  clear_refused r e f b s = refused (state_of w f b) Err _ _ s r e

  pub clear_done : Ok tt ≡ first_of (process_refusals (words_alone w) p) → (v : List ℕ) → Cleared (machine w) p (machine v) → DoesWords (λ s. clear s p) w v (Ok tt)
  unfolding clear process_refusals
  clear_done e v cleared f b s =
      granted (state_of w f b) Err _ (fine (with_machine (state_of w f b) (clear_regions (machine w) p))) s e
      ∙ ap (λ (x : Machine). fine (with_machine (state_of w f b) x)) (sym (cleared (sound_clearable (state_of w f b) p ((sound_tells _).yes s) (process_yes w p e))))
