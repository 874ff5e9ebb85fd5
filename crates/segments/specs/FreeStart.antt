-- What the search is for: the lowest free start of an arena, and the segments passed on the way to it.
use Rattle.std.specs.Prelude.{Bool, not, ◌&&◌, List, ℕ, ◌+◌, ◌-◌, ◌≤◌, ◌<◌, ltb, leb}
use Rattle.segment.specs.declared.Segment.{Segment}
use Rattle.segments.specs.declared.table.VirtualMemoryManager.{VirtualMemoryManager}
use Rattle.segment.specs.Form.{start_of, last_of, emptyb, Over}
use Rattle.segments.specs.Table.{held, arena, All}

-- ---- what a free start is

-- no segment of a list has one of the len bytes from a on
abbrev pub Clear : List Segment → ℕ → ℕ → Type 0
Clear t len a = All (λ s. Over s a (a + (len - 1)) → ⊥) t

pub record FreeStart (m : VirtualMemoryManager) (len a : ℕ) : Type 0 where
  -- there is a byte to reserve
  pub some : 0 < len
  -- it starts at the arena's first byte or above
  pub above : start_of (arena m) ≤ a
  -- and its last byte is the arena's (LowestLaws: free-last)
  pub below : a + len ≤ start_of (arena m) + m.mem_size
  -- nothing held overlaps it
  pub clear : Clear (held m) len a

pub record LowestStart (m : VirtualMemoryManager) (len a : ℕ) : Type 0 where
  -- it is free
  pub free : FreeStart m len a
  -- and no lower one is
  pub least : (x : ℕ) → x < a → FreeStart m len x → ⊥

-- a segment passed on the way from `from` to `a`: not empty, its last byte at or above `from`, its start below `a`
abbrev pub passedb : ℕ → ℕ → Segment → Bool
passedb from a s = not (emptyb s) && (leb from (last_of s) && ltb (start_of s) a)
