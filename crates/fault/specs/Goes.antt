-- What each way of a fault asks of the memory (RULES T1 to T11).
use Rattle.std.specs.Prelude.{◌≡◌, Bool, true, List, ℕ, ◌+◌, ◌*◌, ◌^◌, ◌≤◌, ◌<◌, Ok}
use Rattle.model.specs.declared.Way.{Way}
use Rattle.model.specs.Layout.{machine}
use Rattle.model.specs.Machine.{Machine, process_at, region_at, order_of}
use Rattle.model.specs.Lookup.{contains}
use Rattle.model.specs.Paging.{page_start}
use Rattle.model.specs.Answers.{first_of}
use Rattle.model.specs.Fault.{fault_way, way_refusals}
use Rattle.model.specs.SoundTest.{soundb}
use Rattle.rows.specs.LentMemory.{state_of}
use Rattle.fault_fill.specs.Fill.{FileReads}
use Rattle.laws.specs.In.{In}

-- a fault at a page of an attached region of an open process, of a sound machine
pub record FaultFits (w f b : List ℕ) (p slot page : ℕ) : Type 0 where
  pub sound : soundb (state_of w f b) ≡ true
  pub opened : (process_at (machine w) p).opened ≡ 1
  pub listed : In slot (order_of (machine w) p)
  pub inside : contains (region_at (machine w) p slot) (page_start page) ≡ true

-- the next free frame has its bytes
abbrev pub NextFits : Machine → ℕ → Type 0
NextFits m size = m.pool.next.0 * 4096 + 4096 ≤ size

-- what a new page is filled from is there
abbrev pub FreshFits : Machine → ℕ → ℕ → ℕ → ℕ → Type 0
FreshFits m size p slot page = (page < 2 ^ 52) × FileReads m size (region_at m p slot) page

-- the way of a fault, which nothing refuses
pub record Goes (m : Machine) (p slot page : ℕ) (way : Way) : Type 0 where
  pub write : Bool
  pub picked : way ≡ fault_way m p slot page write
  pub passes : first_of (way_refusals m p slot page way) ≡ Ok tt
