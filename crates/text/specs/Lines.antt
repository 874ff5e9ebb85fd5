-- A line of a chunk of input, and a line that is gathered from several.
use Rattle.std.specs.Prelude.{◌≡◌, ℕ, ◌+◌, ◌-◌, ◌≤◌, true, false, cond, List, ◌++◌, length, take, ◌==◌, not, nat_lt, slice_index}
use Rattle.std.specs.List.{take_while}
use Rattle.text.specs.declared.lines.Held.{Held}

-- how many bytes stand before the first newline
unfoldable pub line_length : List ℕ → ℕ
line_length s = length (take_while (λ b. not (b == 10)) s)

-- a line's length without a carriage return at its end
unfoldable pub without_return : List ℕ → ℕ
without_return s = cond (length s == 0) 0 (cond (slice_index s (length s - 1) == 13) (length s - 1) (length s))

-- what is held with one more part: a line that does not fit the buffer is long, and stays so
abbrev pub held_with : ℕ → Held → List ℕ → Held
held_with room held part =
    cond held.long held
    (cond (nat_lt (room - held.len) (length part)) (record { len = held.len; long = true })
    (record { len = held.len + length part; long = false }))

-- the buffer holds what it held with the part behind it, unless the line is long
pub record Gathered (line : List ℕ) (held : Held) (part new : List ℕ) (r : Held) : Type 0 where
  pub is : r ≡ held_with (length line) held part
  pub within : r.len ≤ length line
  pub holds : r.long ≡ false → take r.len new ≡ take held.len line ++ part
