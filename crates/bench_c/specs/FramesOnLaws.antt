-- Laws of `FramesOn`: frames of lent bytes zeroed and copied, where they are there.
use Rattle.std.specs.Prelude.{◌≡◌, ℕ, ◌/◌, ◌<◌, ◌≤◌, List, length}
use Rattle.std.proofs.Common.{lt-ltb, le-ltb}
use Rattle.bench_c.specs.FramesOn.{where_there}

module _ (l : List ℕ) (f : ℕ) (new : List ℕ) where
  pub there : f < length l / 4096 → where_there l f new ≡ new
  unfolding where_there
  there h = rw (lt-ltb f (length l / 4096) h)

  pub not_there : length l / 4096 ≤ f → where_there l f new ≡ l
  unfolding where_there
  not_there h = rw (le-ltb f (length l / 4096) h)
