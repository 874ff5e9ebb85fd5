-- A region's page entries in page order: the next one from a page on, how a loop finds it, and what it is.
use Rattle.std.specs.Prelude.{◌≡◌, ◌≢◌, Bool, true, ◌&&◌, cond, List, [], ◌∷◌, ℕ, ◌+◌, get_or, eqb, leb, Option, Some, None}
use Rattle.model.specs.declared.Entry.{Entry}
use Rattle.laws.specs.Tests.{Pairs}
use Rattle.model.specs.Machine.{no_entry}
use Rattle.model.specs.Clone.{Held}

-- whether an entry is an owner's, from a page on
abbrev pub entry_from : ℕ → ℕ → Entry → Bool
entry_from owner page e = eqb e.owner owner && leb page e.page.0

-- whether a page is no later than that of the row found in table t
abbrev pub not_after : List Entry → ℕ → Option ℕ → Bool
not_after t page None = true
not_after t page (Some j) = leb page (get_or t j no_entry).page.0

abbrev pub comes_first : List Entry → ℕ → ℕ → Entry → Option ℕ → Bool
comes_first t owner page e later = entry_from owner page e && not_after t e.page.0 later

-- row i of table t, or what was found after it
abbrev pub nearer : List Entry → ℕ → ℕ → ℕ → Option ℕ → Option ℕ
nearer t owner page i later = cond (comes_first t owner page (get_or t i no_entry) later) (Some i) later

-- of the entries of an owner from a page on, the row of the lowest page, the lowest row among equals: among the rows l of table t from row i on
unfoldable pub next_from : List Entry → ℕ → ℕ → List Entry → ℕ → Option ℕ
next_from t owner page [] i = None
next_from t owner page (e ∷ l) i = let later = next_from t owner page l (i + 1) in cond (comes_first t owner page e later) (Some i) later

-- .. of the entries of the region in a row
unfoldable pub next_entry : List Entry → ℕ → ℕ → Option ℕ
next_entry t row page = next_from t (row + 1) page t 0

-- an entry's page and frame
abbrev pub held_of : Entry → Held
held_of e = record { page = e.page.0; frame = e.frame.0 }

-- R6: entries of a region, one a page
abbrev pub OnceAPage : List Entry → Type 0
OnceAPage t = Pairs no_entry t (λ e. e.owner ≢ 0) (λ e f. e.owner ≡ f.owner → e.page.0 ≢ f.page.0)
