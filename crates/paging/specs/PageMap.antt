-- What a page table means, a finite map from pages to frames and flags, and what each operation does to the map.
use Rattle.std.specs.Prelude.{Bool, cond, List, ℕ, eqb, Option, Some, None}
use Rattle.model.specs.declared.Region.{Region}
use Rattle.model.specs.declared.Mapping.{Mapping}
use Rattle.model.specs.Lookup.{contains}
use Rattle.model.specs.Paging.{page_start, translate}
use Rattle.paging.specs.Mapper.{reflag}

abbrev pub PageMap : Type 0
PageMap = ℕ → Option Mapping

-- the meaning of the flat table: its mapped pages
abbrev pub meaning : List Mapping → PageMap
meaning l page = translate l page

-- one page mapped
abbrev pub page_mapped : PageMap → Mapping → PageMap
page_mapped f x q = cond (eqb x.page.0 q) (Some x) (f q)

-- the pages that a test names, unmapped: one of them, or those that start inside a region
abbrev pub pages_unmapped : PageMap → (ℕ → Bool) → PageMap
pages_unmapped f out q = cond (out q) None (f q)

abbrev pub page_unmapped : PageMap → ℕ → PageMap
page_unmapped f page = pages_unmapped f (λ q. eqb q page)

abbrev pub region_unmapped : PageMap → Region → PageMap
region_unmapped f r = pages_unmapped f (λ q. contains r (page_start q))

-- a page's flags replaced, its frame kept
abbrev pub with_flags : Option Mapping → ℕ → Option Mapping
with_flags (Some x) flags = Some (reflag x flags)
with_flags None flags = None

abbrev pub page_remapped : PageMap → ℕ → ℕ → PageMap
page_remapped f page flags q = cond (eqb q page) (with_flags (f q) flags) (f q)
