-- Two tables of entries that are alike for the region in a row: its entries stand in the same rows.
use Rattle.std.specs.Prelude.{◌≡◌, ◌≢◌, List, ℕ, ◌+◌, length, get_or}
use Rattle.model.specs.declared.Entry.{Entry}
use Rattle.model.specs.Machine.{no_entry}

pub record Alike (t u : List Entry) (src : ℕ) : Type 0 where
  pub long : length u ≡ length t
  pub same : (j : ℕ) → (get_or t j no_entry).owner ≡ src + 1 → get_or u j no_entry ≡ get_or t j no_entry
  pub other : (j : ℕ) → (get_or t j no_entry).owner ≢ src + 1 → (get_or u j no_entry).owner ≢ src + 1
