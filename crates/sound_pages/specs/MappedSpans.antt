-- The rows between which a process's entries lie, found in one pass over the entries; the pass that marks looks at no others.
use Rattle.std.specs.Prelude.{◌≡◌, ◌≢◌, true, List, ℕ, ◌≤◌, ◌<◌, length, get_or}
use Rattle.model.specs.declared.Entry.{Entry}
use Rattle.model.specs.Machine.{Machine, no_entry}
use Rattle.sound_pages.specs.MappedMarks.{of_process}

abbrev pub entry : Machine → ℕ → Entry
entry m k = get_or m.entries k no_entry

-- p is the process of an entry's owner, or 8 where it has none
pub record ProcessOf (e : Entry) (p : ℕ) : Type 0 where
  pub most : p ≤ 8
  pub only : (q : ℕ) → q < 8 → of_process q e ≡ true → q ≡ p

-- all entries of a process lie from one row up to another
abbrev pub Spanned : Machine → ℕ → ℕ → ℕ → Type 0
Spanned m p from to = (k : ℕ) → k < 512 → of_process p (entry m k) ≡ true → (from ≤ k) × (k < to)

-- of each process the rows between which those of the first j entries lie
pub record Spans (m : Machine) (firsts pasts : List ℕ) (j : ℕ) : Type 0 where
  pub low : j ≤ 512
  pub few : length firsts ≡ 8
  pub many : length pasts ≡ 8
  pub first : (p : ℕ) → p < 8 → get_or firsts p 0 ≢ 512 → get_or firsts p 0 ≤ j
  pub past : (p : ℕ) → p < 8 → get_or pasts p 0 ≤ j
  pub each : (p k : ℕ) → p < 8 → k < j → of_process p (entry m k) ≡ true → (get_or firsts p 0 ≤ k) × (k < get_or pasts p 0)

-- none yet
pub record Unspanned (firsts pasts : List ℕ) : Type 0 where
  pub few : length firsts ≡ 8
  pub many : length pasts ≡ 8
  pub first : (p : ℕ) → p < 8 → get_or firsts p 0 ≡ 512
  pub past : (p : ℕ) → p < 8 → get_or pasts p 0 ≡ 0
