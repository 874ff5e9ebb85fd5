-- A slot put last in list order, where a place is free and the free places are 0.
use Rattle.std.specs.Prelude.{◌≡◌, ℕ, ◌<◌, drop}
use Rattle.laws.specs.Lists.{part}
use Rattle.laws.specs.Tests.{Rows}
use Rattle.model.specs.Machine.{Machine, process_at}

-- list order has a place left, and the free places are 0
pub record Room (m : Machine) (p : ℕ) : Type 0 where
  pub few : (process_at m p).attached < 64
  pub free : Rows 0 (drop (process_at m p).attached (part 64 p m.order)) (λ i t. t ≡ 0)
