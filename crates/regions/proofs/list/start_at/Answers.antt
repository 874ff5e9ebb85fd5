-- `start_at` reads the slot, then its region's start.
use mathlib.Core.Path.{ap, ◌∙◌}
use Prim.Native.Nat.{ℕ}
use Rattle.model.specs.declared.Region.{Region}
use Rattle.model.specs.Layout.{machine}
use Rattle.model.specs.Machine.{region_at}
use Rattle.regions.proofs.list.start_at.Goals as goal

pub returns : goal.returns
returns c = ap (λ (r : Region). r.start.0) c.region_in.ensures ∙ ap (λ (s : ℕ). (region_at (machine c.args.words.now) c.args.process s).start.0) c.order_at-slot.ensures
