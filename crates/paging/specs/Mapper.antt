-- What map, unmap, remap and unmap_from leave of a machine, whatever its rows are. MapperLaws: what that is where a page table is well formed.
use Rattle.std.specs.Prelude.{cond, ℕ, ◌+◌, ◌-◌, length, get_or, set, ltb, Option, Some, None}
use Rattle.model.specs.declared.Mapping.{Mapping}
use Rattle.model.specs.declared.Region.{Region}
use Rattle.model.specs.Machine.{Machine, mapped_of, no_mapping}
use Rattle.model.specs.Lookup.{span_end, pages_for}
use Rattle.model.specs.Paging.{mapping}
use Rattle.paging.specs.Place.{place, row_for}
use Rattle.paging.specs.ProcessRows.{rows_of, with_rows, with_count, row_put, rows_taken}

abbrev pub mapped_pages : Machine → ℕ → ℕ
mapped_pages m p = length (mapped_of m p)

-- a row put at `at`, of n in use
abbrev pub inserted : Machine → ℕ → ℕ → ℕ → Mapping → Machine
inserted m p at n x = with_count (with_rows m p (row_put (rows_of m p) at n x)) p (n + 1)

-- the rows from `from` up to `to` taken out, of n in use
abbrev pub taken_out : Machine → ℕ → ℕ → ℕ → ℕ → Machine
taken_out m p from to n = with_count (with_rows m p (rows_taken (rows_of m p) from to n)) p (n - (to - from))

-- MapFailed (RULES E16): 128 pages are mapped already
unfoldable pub map_by : Machine → ℕ → Mapping → Machine
map_by m p x = cond (ltb (mapped_pages m p) 128) (inserted m p (place (mapped_of m p) x.page.0) (mapped_pages m p) x) m

abbrev pub unmap_row : Machine → ℕ → Option ℕ → Machine
unmap_row m p (Some i) = taken_out m p i (i + 1) (mapped_pages m p)
unmap_row m p None = m

unfoldable pub unmap_by : Machine → ℕ → ℕ → Machine
unmap_by m p page = unmap_row m p (row_for (mapped_of m p) page)

-- a row with other flags
abbrev pub reflag : Mapping → ℕ → Mapping
reflag x flags = mapping x.page.0 x.frame.0 flags

abbrev pub remap_row : Machine → ℕ → ℕ → Option ℕ → Machine
remap_row m p flags (Some i) = with_rows m p (set (rows_of m p) i (reflag (get_or (rows_of m p) i no_mapping) flags))
remap_row m p flags None = m

unfoldable pub remap_by : Machine → ℕ → ℕ → ℕ → Machine
remap_by m p page flags = remap_row m p flags (row_for (mapped_of m p) page)

-- the first page that starts in a region or past it, and the first that starts past it
abbrev pub first_page : Region → ℕ
first_page r = pages_for r.start.0

abbrev pub end_page : Region → ℕ
end_page r = pages_for (span_end r)

abbrev pub taken_if : Machine → ℕ → ℕ → ℕ → Machine
taken_if m p from to = cond (ltb from to) (taken_out m p from to (mapped_pages m p)) m

unfoldable pub unmap_from_by : Machine → ℕ → Region → Machine
unmap_from_by m p r = taken_if m p (place (mapped_of m p) (first_page r)) (place (mapped_of m p) (end_page r))
