-- The pass over the entries: the row of an entry's page, and what is known after each entry.
use Rattle.std.specs.Prelude.{◌≡◌, Bool, true, false, List, ℕ, ◌<◌, length, Option, Some, None}
use Rattle.model.specs.declared.Mapping.{Mapping}
use Rattle.model.specs.Machine.{Machine}
use Rattle.paging.specs.Place.{page_at}
use Rattle.sound_pages.specs.MappedFit.{all_fit}
use Rattle.sound_pages.specs.MappedMarks.{Seen}

-- the row in which a page is mapped, and none where it is in no row
unfoldable pub RowOf : List Mapping → ℕ → Option ℕ → Type 0
RowOf l page (Some i) = (i < length l) × (page_at l i ≡ page)
RowOf l page None = (i : ℕ) → i < length l → page_at l i ≡ page → ⊥

-- after j entries the marks are known, or that not every mapping fits
unfoldable pub After : Machine → ℕ → ℕ → List ℕ → Option ℕ → Type 0
After m p j marks (Some n) = Seen m p j marks
After m p j marks None = all_fit m p ≡ false

unfoldable pub AfterAll : Machine → ℕ → List ℕ → Bool → Type 0
AfterAll m p marks true = Seen m p 512 marks
AfterAll m p marks false = all_fit m p ≡ false
