-- A process's 128 rows of mapped pages: read, replaced from a place on, and the machine with other rows or another count.
use Rattle.std.specs.Prelude.{List, ◌∷◌, ◌++◌, ℕ, ◌+◌, ◌-◌, length, take, drop, set, replicate}
use Rattle.std.proofs.Math.Seq.{slice}
use Rattle.model.specs.declared.Mapping.{Mapping}
use Rattle.laws.specs.Lists.{part, put_part}
use Rattle.model.specs.Machine.{Machine, process_at, mapped_count, no_mapping, with_processes}
use Rattle.rows.specs.With.{with_mapped_table}

unfoldable pub rows_of : Machine → ℕ → List Mapping
rows_of m p = part 128 p m.mapped

unfoldable pub with_rows : Machine → ℕ → List Mapping → Machine
with_rows m p rows = with_mapped_table m (put_part 128 p rows m.mapped)

unfoldable pub with_count : Machine → ℕ → ℕ → Machine
with_count m p n = with_processes m (set m.processes p (mapped_count (process_at m p) n))

-- the rows with those from `at` on replaced by new ones
unfoldable pub put_rows : List Mapping → ℕ → List Mapping → List Mapping
put_rows rows at new = take at rows ++ (new ++ drop (at + length new) rows)

-- of n rows in use, those from `at` on stand one higher, and a new one stands at `at`
unfoldable pub row_put : List Mapping → ℕ → ℕ → Mapping → List Mapping
row_put rows at n x = put_rows rows at (x ∷ slice at n rows)

-- of n rows in use, those from `from` up to `to` are taken out: the ones above move down, and the freed ones are all zeros
unfoldable pub rows_taken : List Mapping → ℕ → ℕ → ℕ → List Mapping
rows_taken rows from to n = put_rows rows from (slice to n rows ++ replicate (to - from) no_mapping)
