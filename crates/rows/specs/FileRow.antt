-- Whether a file's row fits the bytes that are lent.
use Rattle.std.specs.Prelude.{Bool, ◌&&◌, ℕ, ◌+◌, leb}
use Rattle.model.specs.declared.File.{File}

-- a file that lies in n lent bytes
abbrev pub is_lent : ℕ → File → Bool
is_lent n f = leb f.readable 1 && leb (f.offset + f.len) n
