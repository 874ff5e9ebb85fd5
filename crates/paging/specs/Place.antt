-- Where a page stands or belongs among a process's mapped pages: the halving search, and the row that it finds.
use Rattle.std.specs.Prelude.{Bool, ◌&&◌, cond, List, ℕ, zero, suc, ◌+◌, ◌/◌, length, get_or, eqb, ltb, Option, Some, None}
use Rattle.model.specs.declared.Mapping.{Mapping}
use Rattle.model.specs.Machine.{no_mapping}

abbrev pub page_at : List Mapping → ℕ → ℕ
page_at l i = (get_or l i no_mapping).page.0

abbrev pub middle : ℕ → ℕ → ℕ
middle lo hi = (lo + hi) / 2

-- the search between rows lo and hi, in at most n steps
unfoldable pub halve : ℕ → List Mapping → ℕ → ℕ → ℕ → ℕ
halve zero l page lo hi = lo
halve (suc n) l page lo hi =
    let up = halve n l page (middle lo hi + 1) hi in
    let down = halve n l page lo (middle lo hi) in
    cond (ltb lo hi) (cond (ltb (page_at l (middle lo hi)) page) up down) lo

-- how many rows stand below a page, where rows are in page order
unfoldable pub place : List Mapping → ℕ → ℕ
place l page = halve (length l) l page 0 (length l)

abbrev pub stands_at : List Mapping → ℕ → ℕ → Bool
stands_at l i page = ltb i (length l) && eqb (page_at l i) page

-- the row of a page
unfoldable pub row_for : List Mapping → ℕ → Option ℕ
row_for l page = cond (stands_at l (place l page) page) (Some (place l page)) None

abbrev pub mapped_at : List Mapping → Option ℕ → Option Mapping
mapped_at l (Some i) = Some (get_or l i no_mapping)
mapped_at l None = None

-- what a page is mapped to, by the search
unfoldable pub translate_by : List Mapping → ℕ → Option Mapping
translate_by l page = mapped_at l (row_for l page)
