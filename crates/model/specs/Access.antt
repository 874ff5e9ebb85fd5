-- Loads and stores of one byte.
use Rattle.std.specs.Prelude.{Bool, false, ◌&&◌, ◌||◌, not, ℕ, ◌+◌, ◌*◌, ◌/◌, ◌%◌, get_or, set, Option, Some, None}
use Rattle.model.specs.declared.Mapping.{Mapping}
use Rattle.model.specs.Machine.{Machine, State, with_frames, mapped_of}
use Rattle.model.specs.Paging.{translate, is_user, is_writable}

-- RULES L1, L2: a one-byte load needs the page mapped with USER_ACCESSIBLE, a store WRITABLE too
abbrev pub granted : Option Mapping → Bool → Bool
granted None w = false
granted (Some x) w = is_user x.flags.0 && (not w || is_writable x.flags.0)

abbrev pub page_at : Machine → ℕ → ℕ → Option Mapping
page_at m p a = translate (mapped_of m p) (a / 4096)

-- the byte at that place in the mapped frame (RULES L4): its place among the frames' bytes
abbrev pub byte_at : Option Mapping → ℕ → ℕ
byte_at (Some x) a = x.frame.0 * 4096 + a % 4096
byte_at None a = 0

unfoldable pub loaded : State → ℕ → ℕ → ℕ
loaded s p a = get_or s.frames (byte_at (page_at s.machine p a) a) 0

-- a granted store puts its byte there and changes nothing else (RULES L5)
unfoldable pub stored : State → ℕ → ℕ → ℕ → State
stored s p a b = with_frames s (set s.frames (byte_at (page_at s.machine p a) a) b)
