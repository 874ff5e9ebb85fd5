-- The call that closes a process, way by way: no such process, a pin that stands, closed.
use Rattle.std.specs.Prelude.{◌≡◌, true, false, List, ℕ, Ok, Err}
use Rattle.std.proofs.Math.Path.{ap}
use Rattle.std.proofs.Common.{sym, ◌∙◌}
use Rattle.answers.specs.declared.Refusal.TheVariants.{NoProcess, InUse}
use Rattle.model.specs.Machine.{Machine, with_machine}
use Rattle.model.specs.Layout.{machine}
use Rattle.model.specs.Lookup.{is_open}
use Rattle.model.specs.Answers.{fine}
use Rattle.model.specs.Remove.{pin_stands, close_process}
use Rattle.model.specs.Refusals.{close_refusals}
use Rattle.model.specs.Calls.{close}
use Rattle.model.specs.RecordLaws.{sound_tells}
use Rattle.rows.specs.LentMemory.{DoesWords, state_of}
use Rattle.rows.specs.GuardedLaws.{refused, granted}
use Rattle.lookup.specs.FirstOfLaws.{first_here, first_later, first_none, not_no, not_yes, open_small}
use Rattle.remove.specs.ClearedLaws.{sound_clearable}
use Rattle.remove.specs.Cleared.{Closed}

module _ (w : List ℕ) (p : ℕ) where
  pub close_missing : is_open (machine w) p ≡ false → DoesWords (λ s. close s p) w w (Err NoProcess)
  unfolding close close_refusals
  close_missing o frames files sound = refused (state_of w frames files) Err _ _ sound NoProcess (first_here _ NoProcess _ (not_no _ o))

  module _ (o : is_open (machine w) p ≡ true) where
    pub close_pinned : pin_stands (machine w) p ≡ true → DoesWords (λ s. close s p) w w (Err InUse)
    unfolding close close_refusals
    close_pinned q frames files sound = refused (state_of w frames files) Err _ _ sound InUse (first_later _ NoProcess _ _ (not_yes _ o) (first_here _ InUse _ q))

    pub close_done : pin_stands (machine w) p ≡ false → (v : List ℕ) → Closed (machine w) p (machine v) → DoesWords (λ s. close s p) w v (Ok tt)
    unfolding close close_refusals
    close_done q v closed frames files sound =
        granted (state_of w frames files) Err _ (fine (with_machine (state_of w frames files) (close_process (machine w) p))) sound (first_later _ NoProcess _ _ (not_yes _ o) (first_later _ InUse _ _ q first_none))
        ∙ ap (λ (x : Machine). fine (with_machine (state_of w frames files) x)) (sym (closed (sound_clearable (state_of w frames files) p ((sound_tells _).yes sound) (open_small w p o))))
