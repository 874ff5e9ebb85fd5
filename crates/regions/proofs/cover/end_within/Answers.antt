-- `end_within` is end_within: a sum that is too large ends at the last number, past the range's end.
use mathlib.Core.Path.{ap, ◌∙◌}
use native.Mathlib.Omega.{arith}
use Rattle.std.specs.Prelude.{ℕ, min}
use Rattle.regions.specs.CoverLaws.{ends_within}
use Rattle.regions.proofs.cover.end_within.Goals as goal

pub returns : goal.returns
returns c = ends_within c.args.region c.args.end _ (omega arith) (c.min.ensures ∙ ap (λ (n : ℕ). min n c.args.end) c.saturating_add.ensures)
