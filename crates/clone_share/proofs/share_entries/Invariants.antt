-- `share_entries` walks through the entries in page order. The invariant: those below the page are shared, the rest comes to the same.
use mathlib.Core.Path.{◌≡◌}
use Prim.Native.Nat.{◌-◌, ◌≤◌}
use lib.ListN.{length}
use Rattle.model.specs.Layout.{machine}
use Rattle.clone_share.specs.ShareNextLaws.{Going}
use Rattle.clone_share.proofs.share_entries.Given as goal

abbrev pub invariant-loop-i : goal.invariant-loop-i
invariant-loop-i l = (l.i ≤ l.n) × ((length l.words ≡ length l.initial.words) × Going (machine l.initial.words) (machine l.words) l.src l.row l.page.0 (l.n - l.i))
