-- Laws of `ProcessRow`: a process's row: its arena and counts, and what a closed one has.
use Rattle.std.specs.Prelude.{◌≡◌, Bool, true, false, ℕ}
use Rattle.std.proofs.Common.{eq-eqb, ne_eqb}
use Rattle.model.specs.declared.Process.{Process}
use Rattle.model.specs.Machine.{Machine}
use Rattle.model.specs.SoundTest.{empty_process, process_fits}
use Rattle.sound_rows.specs.ProcessRow.{arena_fits}

module _ (m : Machine) (p : ℕ) (q : Process) (x : Bool) where
  pub open_process : q.opened ≡ 1 → x ≡ arena_fits q → x ≡ process_fits m p q
  unfolding process_fits arena_fits
  open_process o e = rw (eq-eqb q.opened 1 o) e

  pub closed_process : (q.opened ≡ 1 → ⊥) → empty_process m p q ≡ true → x ≡ arena_fits q → x ≡ process_fits m p q
  unfolding process_fits arena_fits
  closed_process n t e = rw (ne_eqb q.opened 1 n, t) e

pub neither_process : (m : Machine) (p : ℕ) (q : Process) → (q.opened ≡ 1 → ⊥) → empty_process m p q ≡ false → false ≡ process_fits m p q
unfolding process_fits
neither_process m p q n t = rw (ne_eqb q.opened 1 n, t)
