-- Pages and frames of 4,096 bytes.
use Rattle.std.specs.Prelude.{Bool, ℕ, ◌+◌, ◌*◌, ◌/◌, ◌%◌, ◌^◌, eqb}

-- a page is 4,096 bytes (RULES N1); the page or frame that holds a byte
abbrev pub page_of : ℕ → ℕ
page_of a = a / 4096

-- the first byte of a page or frame; there are 2^52 of them in 64 bits
abbrev pub start_of : ℕ → ℕ
start_of n = n % 2 ^ 52 * 4096

-- a byte's place in its page
abbrev pub page_offset : ℕ → ℕ
page_offset a = a % 4096

-- the first page that starts at an address or later
abbrev pub page_from : ℕ → ℕ
page_from a = (a + 4095) / 4096

abbrev pub aligned : ℕ → Bool
aligned a = eqb (a % 4096) 0
