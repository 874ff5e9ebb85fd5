-- A page entry's row, and where its page starts, counted in pages.
use Rattle.std.specs.Prelude.{Bool, ◌&&◌, not, ℕ, eqb}
use Rattle.model.specs.declared.Region.{Region}
use Rattle.model.specs.Lookup.{contains}
use Rattle.model.specs.Paging.{page_start}

-- a region that may have an entry of a page
abbrev pub takes_entry : Region → ℕ → Bool
takes_entry r page = not (eqb r.kind 0) && (not (eqb r.kind 3) && contains r (page_start page))
