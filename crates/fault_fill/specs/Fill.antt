-- What a new page of a region holds: where its bytes stand in the file, and how many the file has (RULES B2).
use Rattle.std.specs.Prelude.{◌≡◌, ℕ, ◌<◌, ◌≤◌, ◌+◌, ◌-◌, ◌^◌, min, get_or}
use Rattle.model.specs.declared.Region.{Region}
use Rattle.model.specs.declared.File.{File}
use Rattle.model.specs.Machine.{Machine, no_file}
use Rattle.model.specs.Paging.{page_start}

-- how many bytes a page starts past a region's first
abbrev pub past_start : Region → ℕ → ℕ
past_start r page = page_start page - r.start.0

-- of the bytes that are wanted from a place of a file on, how many it has
abbrev pub file_bytes : File → ℕ → ℕ → ℕ
file_bytes f at n = min n (f.len - at)

-- what reading a region's file at a page asks: its place is a number that fits, and the file lies in the lent bytes
abbrev pub FileReads : Machine → ℕ → Region → ℕ → Type 0
FileReads m size r page = r.kind ≡ 2 → (r.offset + past_start r page < 2 ^ 64) × ((get_or m.files r.file no_file).offset + (get_or m.files r.file no_file).len ≤ size)
