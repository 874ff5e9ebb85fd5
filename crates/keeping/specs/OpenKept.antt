-- Open keeps a machine sound: the lowest closed process gets a row with an arena.
use Rattle.std.specs.Prelude.{◌≡◌, refl, false, ◌||◌, not, ℕ, ◌+◌, set, eqb, ltb}
use Rattle.std.proofs.Common.{ap, sym, arith, eqb-true, ltb-true, ltb-false}
use Rattle.std.proofs.lemmas.Bool.{not-false}
use Rattle.address.specs.Canonical.{user}
use Rattle.address.specs.Pages.{aligned}
use Rattle.model.specs.declared.Process.{Process}
use Rattle.model.specs.Machine.{State, with_processes, process_at, no_process, user_end}
use Rattle.model.specs.Lookup.{is_found, row_found}
use Rattle.model.specs.Refusals.{open_refusals, closed_row}
use Rattle.model.specs.Calls as calls
use Rattle.model.specs.Run.{Call, call, step}
use Rattle.model.specs.Sound.{Sound}
use Rattle.laws.specs.BoolLaws.{or_none}
use Rattle.model.specs.FoundRowLaws.{first_found}
use Rattle.keeping.specs.Owing.{Owing, nothing}
use Rattle.keeping.specs.ProcessesKept.{process_kept}
use Rattle.keeping.specs.GuardedKept.{guarded_kept}
use Rattle.model.specs.FoundRowLaws.{found_row}
use Rattle.keeping.specs.CoreKept.{machine_kept}

pub open_kept : (s : State) → Sound s → (a size : ℕ) → Sound (step (Call.open_process a size) s)
unfolding step call calls.open_process calls.core_open open_refusals
open_kept s sound a size =
    guarded_kept s _ _ _ sound (λ k. machine_kept s _ sound (record { files = refl; file_count = refl; frame_count = refl })
    (λ o. core o k.0 k.1.0 k.1.1.0))
  where
    core : Owing nothing s.machine → not (user a) ≡ false → (not (aligned a) || (not (aligned size) || ltb user_end (a + size))) ≡ false
        → not (is_found (closed_row s.machine)) ≡ false
        → Owing nothing (with_processes s.machine (set s.machine.processes (row_found (closed_row s.machine)) (calls.opened_row a size)))
    core o u b f =
        let found = first_found (λ q. eqb q.opened 0) s.machine.processes (row_found (closed_row s.machine)) no_process (found_row (closed_row s.machine) f) in
        let count = o.sizes.processes in
        let low = found.0 in
        let none_open = eqb-true (process_at s.machine (row_found (closed_row s.machine))).opened 0 found.1 in
        let none = o.closed (row_found (closed_row s.machine)) (λ e. omega arith) in
        let b1 = or_none (not (aligned a)) _ b in
        let b2 = or_none (not (aligned size)) _ b1.1 in
        let end = ltb-false user_end (a + size) b2.1 in
        let start = ltb-true a user_end (not-false _ u) in
        process_kept nothing s.machine o (row_found (closed_row s.machine)) (omega arith) (calls.opened_row a size)
        (sym (ap (λ (q : Process). q.attached) none)) (sym (ap (λ (q : Process). q.mapped) none))
        (record {
          aligned_start = not-false _ b1.0;
          aligned_size = not-false _ b2.0;
          user_start = start;
          user_last = end;
          attached = omega arith;
          mapped = omega arith;
        }) (λ z. absurd (z refl))
