-- The sizes of the lent memory, and the files' rows, over numbers.
use Rattle.std.specs.Prelude.{Bool, ◌&&◌, ◌||◌, not, ℕ, ◌*◌, eqb, ltb, leb}
use Rattle.model.specs.declared.File.{File}
use Rattle.model.specs.Machine.{Machine}
use Rattle.model.specs.SoundTest.{free_file}
use Rattle.rows.specs.FileRow.{is_lent}

-- the counts fit their tables, and n bytes are the frames'
unfoldable pub sizes_fit : Machine → ℕ → Bool
sizes_fit m n = leb m.frame_count 256 && (leb m.file_count 8 && eqb n (m.frame_count * 4096))

-- row i of k files in n lent bytes
unfoldable pub file_fits_in : ℕ → ℕ → ℕ → File → Bool
file_fits_in k n i f = (not (ltb i k) || is_lent n f) && (not (leb k i) || free_file f)
