-- `is_shadowed`: whether the search finds an entry.
use Rattle.std.specs.Prelude.{Option, ℕ}
use mathlib.Core.Path.{ap, ◌∙◌}
use Rattle.model.specs.Lookup.{is_found}
use Rattle.lookup.specs.LookupsLaws.{some_found}
use Rattle.clone_pages.proofs.is_shadowed.Goals as goal

pub returns : goal.returns
returns c = c.is_some.ensures ∙ some_found _ ∙ ap (λ (x : Option ℕ). is_found x) c.entry_for.ensures
