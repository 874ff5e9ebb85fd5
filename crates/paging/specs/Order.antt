-- Where pages rise: the halving search counts the pages below, and each of the model's operations is a change at that place.
use Rattle.std.specs.Prelude.{List, ◌<◌, ℕ, eqb}
use Rattle.model.specs.declared.Mapping.{Mapping}
use Rattle.model.specs.Machine.{no_mapping}
use Rattle.laws.specs.Tests.{Pairs}
use Rattle.model.specs.Paging.{remap_where}

-- page order
abbrev pub Rising : List Mapping → Type 0
Rising l = Pairs no_mapping l (λ x. Unit {0}) (λ x y. x.page.0 < y.page.0)

-- ---- remap

-- a page's flags replaced
abbrev pub remap_page : List Mapping → ℕ → ℕ → List Mapping
remap_page l page flags = remap_where (λ y. eqb y.page.0 page) (λ y. flags) l
