-- Frames of lent bytes zeroed and copied, where they are there.
use Rattle.std.specs.Prelude.{ℕ, ◌/◌, cond, List, length, replicate, nat_lt}
use Rattle.model.specs.Backing.{frame_bytes, put_frame}

-- new bytes where frame f is among the bytes, else the bytes as they are
unfoldable pub where_there : List ℕ → ℕ → List ℕ → List ℕ
where_there l f new = cond (nat_lt f (length l / 4096)) new l

abbrev pub zero_on : List ℕ → ℕ → List ℕ
zero_on l f = where_there l f (put_frame l f (replicate 4096 0))

abbrev pub copy_on : List ℕ → ℕ → ℕ → List ℕ
copy_on l from to = where_there l from (where_there l to (put_frame l to (frame_bytes l from)))
