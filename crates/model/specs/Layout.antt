-- Where each row of each table stands among the machine's 11,844 lent words, and the words read as typed tables.
use Rattle.std.specs.Prelude.{List, [], ◌∷◌, ℕ, ◌+◌, ◌*◌, get_or}
use Rattle.model.specs.declared.Process.{Process}
use Rattle.model.specs.declared.Region.{Region}
use Rattle.model.specs.declared.Mapping.{Mapping}
use Rattle.model.specs.declared.Entry.{Entry}
use Rattle.model.specs.declared.Backing.{Backing}
use Rattle.model.specs.declared.Pool.{Pool}
use Rattle.model.specs.declared.File.{File}
use Rattle.laws.specs.Rows.{rows}
use Rattle.model.specs.Machine.{Machine}

-- how many words are lent
abbrev pub word_count : ℕ
word_count = 11844

-- processes: 8 rows of 5 words, from word 0
unfoldable pub process_row : List ℕ → ℕ → Process
process_row w i = record { opened = get_or w (i * 5) 0; start = record { 0 = get_or w (i * 5 + 1) 0 }; size = get_or w (i * 5 + 2) 0; attached = get_or w (i * 5 + 3) 0; mapped = get_or w (i * 5 + 4) 0 }

-- regions: 512 rows of 12 words, from word 40
unfoldable pub region_row : List ℕ → ℕ → Region
region_row w i =
    record { kind = get_or w (40 + i * 12) 0; start = record { 0 = get_or w (40 + i * 12 + 1) 0 }; size = get_or w (40 + i * 12 + 2) 0; flags = record { 0 = get_or w (40 + i * 12 + 3) 0 }; fork = get_or w (40 + i * 12 + 4) 0; per_thread = get_or w (40 + i * 12 + 5) 0; pins = get_or w (40 + i * 12 + 6) 0; file = get_or w (40 + i * 12 + 7) 0; offset = get_or w (40 + i * 12 + 8) 0; length = get_or w (40 + i * 12 + 9) 0; ranged = get_or w (40 + i * 12 + 10) 0; range = record { 0 = get_or w (40 + i * 12 + 11) 0 } }

-- list order: 512 words, from word 6184
unfoldable pub order_row : List ℕ → ℕ → ℕ
order_row w i = get_or w (6184 + i) 0

-- mapped pages: 1,024 rows of 3 words, from word 6696
unfoldable pub mapping_row : List ℕ → ℕ → Mapping
mapping_row w i = record { page = record { 0 = get_or w (6696 + i * 3) 0 }; frame = record { 0 = get_or w (6696 + i * 3 + 1) 0 }; flags = record { 0 = get_or w (6696 + i * 3 + 2) 0 } }

-- page entries: 512 rows of 3 words, from word 9768
unfoldable pub entry_row : List ℕ → ℕ → Entry
entry_row w i = record { owner = get_or w (9768 + i * 3) 0; page = record { 0 = get_or w (9768 + i * 3 + 1) 0 }; frame = record { 0 = get_or w (9768 + i * 3 + 2) 0 } }

-- backings: 256 rows of 2 words, from word 11304
unfoldable pub backing_row : List ℕ → ℕ → Backing
backing_row w i = record { len = get_or w (11304 + i * 2) 0; holders = get_or w (11304 + i * 2 + 1) 0 }

-- the pool: 2 words, from word 11816
unfoldable pub pool_row : List ℕ → Pool
pool_row w = record { free = get_or w 11816 0; next = record { 0 = get_or w 11817 0 } }

-- files: 8 rows of 3 words, from word 11818
unfoldable pub file_row : List ℕ → ℕ → File
file_row w i = record { readable = get_or w (11818 + i * 3) 0; offset = get_or w (11818 + i * 3 + 1) 0; len = get_or w (11818 + i * 3 + 2) 0 }

-- the number of frames is word 11842, the number of files word 11843
unfoldable pub machine : List ℕ → Machine
machine w =
    record { processes = rows (process_row w) 8; regions = rows (region_row w) 512; order = rows (order_row w) 512; mapped = rows (mapping_row w) 1024; entries = rows (entry_row w) 512; backings = rows (backing_row w) 256; pool = pool_row w; files = rows (file_row w) 8; frame_count = get_or w 11842 0; file_count = get_or w 11843 0 }

-- a row's words, in their order
abbrev pub process_words : Process → List ℕ
process_words q = q.opened ∷ q.start.0 ∷ q.size ∷ q.attached ∷ q.mapped ∷ []

abbrev pub region_words : Region → List ℕ
region_words r = r.kind ∷ r.start.0 ∷ r.size ∷ r.flags.0 ∷ r.fork ∷ r.per_thread ∷ r.pins ∷ r.file ∷ r.offset ∷ r.length ∷ r.ranged ∷ r.range.0 ∷ []

abbrev pub mapping_words : Mapping → List ℕ
mapping_words x = x.page.0 ∷ x.frame.0 ∷ x.flags.0 ∷ []

abbrev pub entry_words : Entry → List ℕ
entry_words e = e.owner ∷ e.page.0 ∷ e.frame.0 ∷ []

abbrev pub backing_words : Backing → List ℕ
backing_words b = b.len ∷ b.holders ∷ []

abbrev pub file_words : File → List ℕ
file_words f = f.readable ∷ f.offset ∷ f.len ∷ []
