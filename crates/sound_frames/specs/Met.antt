-- The backings' rows met one after the other: what may start where, and the state that a row leaves.
use Rattle.std.specs.Prelude.{Bool, ◌&&◌, ◌||◌, cond, ℕ, ◌+◌, eqb, ltb, leb}
use Rattle.sound_frames.specs.declared.backings.Met.{Met}

-- a row that is no backing, or one that starts past the last backing and ends within the frames
abbrev pub may_start : ℕ → ℕ → ℕ → ℕ → Bool
may_start end f len count = eqb len 0 || (leb end f && leb (f + len) count)

unfoldable pub with_free : ℕ → Met → Met
with_free f s = record { end = s.end; free = s.free + 1; next = cond (eqb s.free 0) f s.next }

unfoldable pub with_row : ℕ → ℕ → ℕ → Met → Met
with_row count f len s = cond (eqb len 0) (cond (leb s.end f && ltb f count) (with_free f s) s) (record { end = f + len; free = s.free; next = s.next })
