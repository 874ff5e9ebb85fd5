-- The home of a page in a machine that is laid out: at most one attached region holds an address, so the first that does is the only one.
use Rattle.std.specs.Prelude.{ℕ, Option}
use Rattle.model.specs.Machine.{Machine}
use Rattle.model.specs.Paging.{page_start}
use Rattle.model.specs.Sound.{homes, only}

-- the one attached region in which a page starts
abbrev pub home_at : Machine → ℕ → ℕ → Option ℕ
home_at m p page = only (homes m p (page_start page))
