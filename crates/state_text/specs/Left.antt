-- How much of the state's text is left: a number that falls from line to line.
use Rattle.std.specs.Prelude.{ℕ, ◌+◌, ◌-◌, ◌*◌, Option, Some, None}
use Rattle.state_text.specs.declared.cursor.Cursor.{Cursor}

-- places first, and of a region's place its lines: its own and up to 512 page entries
unfoldable pub left : Option Cursor → ℕ
left None = 0
left (Some c) = 1 + ((2314 - c.place) * 514 + (513 - c.shown))
