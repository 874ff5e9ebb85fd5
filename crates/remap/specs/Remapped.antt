-- A function done to every mapped row of a process, one row after the other (RULES K2, M1).
use Rattle.std.specs.Prelude.{List, ◌++◌, map, ℕ, length, take, drop}
use Rattle.model.specs.declared.Mapping.{Mapping}
use Rattle.model.specs.Machine.{Machine, mapped_of}
use Rattle.paging.specs.ProcessRows.{rows_of, with_rows}

-- the first n rows done
unfoldable pub rows_done : (Mapping → Mapping) → ℕ → List Mapping → List Mapping
rows_done h n l = map h (take n l) ++ drop n l

-- all mapped rows of a process done
unfoldable pub remapped : (Mapping → Mapping) → Machine → ℕ → Machine
remapped h m p = with_rows m p (rows_done h (length (mapped_of m p)) (rows_of m p))
