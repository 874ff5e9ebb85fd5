-- A process's page table that is well formed.
use Rattle.std.specs.Prelude.{◌≡◌, ℕ, ◌≤◌, ◌<◌, length}
use Rattle.model.specs.Machine.{Machine, process_at}
use Rattle.model.specs.Sound.{Paged}

-- at most 128 pages are mapped, in page order, and the rows past them are free
pub record WellPaged (m : Machine) (p : ℕ) : Type 0 where
  pub process : p < 8
  pub table : length m.mapped ≡ 1024
  pub few : (process_at m p).mapped ≤ 128
  pub paged : Paged m p (process_at m p)
