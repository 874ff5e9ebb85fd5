-- What other rules say of a machine that R4 and R5 are tested on: where regions, lists, mapped pages and entries lie.
use Rattle.std.specs.Prelude.{◌≡◌, ◌≢◌}
use Rattle.model.specs.Machine.{Machine, no_process, no_region, no_entry}
use Rattle.laws.specs.Tests.{Rows, Pairs}
use Rattle.model.specs.Sound.{R1, Ordered, Paged, RegionFits, EntryFits}

pub record Laid (m : Machine) : Type 0 where
  pub apart : R1 m
  pub ordered : Rows no_process m.processes (Ordered m)
  pub paged : Rows no_process m.processes (Paged m)
  pub regions : Rows no_region m.regions (λ i r. RegionFits m r)
  pub entries : Rows no_entry m.entries (λ i e. EntryFits m e)
  pub once_a_page : Pairs no_entry m.entries (λ e. e.owner ≢ 0) (λ e f. e.owner ≡ f.owner → e.page.0 ≢ f.page.0)
